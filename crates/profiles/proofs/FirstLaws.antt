-- LAWS. The step from a pattern whose tables are made first.
use mathlib.Core.Path.{◌≡◌}
use mathlib.Core.Bool.{Bool}
use mathlib.Core.List.{List}
use Prim.Native.Nat.{ℕ, ◌*◌}
use native.Mathlib.Omega.{arith}
use lib.ListN.{length}
use Rattle.terms.specs.Fleet.{most_nodes}
use Rattle.matching.specs.Limits.{most_nodes_of_a_pattern}
use Rattle.expansion.specs.Levels.{Tables, Remembers}
use Rattle.expansion.specs.Making.{MakeInput}
use Rattle.search.specs.declared.Pattern.{Pattern}
use Rattle.search.specs.declared.FrequentPattern.{FrequentPattern}
use Rattle.std.specs.Prelude.{Option, Some, None}
use Rattle.search.specs.Sought.{Search}
use Rattle.search.specs.Search.{NextInput, FirstInput}
use Rattle.profiles.specs.Selected.{SelectedNext, SelectedFirst}

pub make_input : {search : Search} (pattern : Pattern) {parents numbers sizes places lens : List ℕ} {known : List Bool} → length pattern.nodes ≡ most_nodes_of_a_pattern → FirstInput search pattern
    → length parents ≡ most_nodes → length numbers ≡ most_nodes → length sizes ≡ most_nodes → length places ≡ most_nodes_of_a_pattern * most_nodes → length lens ≡ most_nodes_of_a_pattern → length known ≡ most_nodes_of_a_pattern
    → MakeInput search.fleet pattern.nodes pattern.len parents numbers sizes places lens known
make_input pattern sixteen i a b c d e f = record {
  is_fleet = i.is_fleet;
  all_nodes = sixteen;
  few = omega (arith, i.within, i.bound_to_most);
  in_form = i.in_form;
  all_parents = a;
  all_numbers = b;
  all_sizes = c;
  all_places = d;
  all_lens = e;
  all_known = f;
}

pub next_input : {search : Search} {pattern : Pattern} {t : Tables} → FirstInput search pattern → Remembers search.fleet pattern.nodes pattern.len t → NextInput search pattern t
next_input i r = record { from_1 = i.from_1; bound_to_most = i.bound_to_most; within = i.within; in_form = i.in_form; remembers = r }

pub first_is : {search : Search} {given : Pattern} (next : Option FrequentPattern) {t : Tables} → SelectedNext search given next t → SelectedFirst search given next
first_is None n = record { is = n.is; within = tt }
first_is (Some found) n = record { is = n.is; within = n.found_or_end.within }
