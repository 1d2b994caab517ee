-- LAWS. Tables of zeros may begin a run.
use mathlib.Core.Bool.{Bool, false}
use Prim.Native.Nat.{ℕ}
use lib.ListN.{replicate, length-replicate}
use Rattle.expansion.specs.Levels.{count_room}
use Rattle.run.specs.Running.{AnyTables}

pub zero_tables : AnyTables (replicate 65536 0) (replicate 16 0) (replicate 152000 0) (replicate 16 false)
unfolding count_room
zero_tables = record {
  all_places = length-replicate {A = ℕ} 65536 0;
  all_lens = length-replicate {A = ℕ} 16 0;
  all_counts = length-replicate {A = ℕ} 152000 0;
  all_known = length-replicate {A = Bool} 16 false;
}
