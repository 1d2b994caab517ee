use Prim.Native.Nat.{◌<◌}
use lib.ListN.{length}
use Rattle.terms.specs.Tree.{IsTree}
use Rattle.merging.specs.Merging.{Rearranged, Siblings, OrderedWithin}
use Rattle.sorting.proofs.insertion.sort.Given as goal

abbrev pub invariant-loop-i : goal.invariant-loop-i
invariant-loop-i l = IsTree l.initial.s × Rearranged l.initial.s l.s × (l.i < length l.s) × OrderedWithin l.s l.i (length l.s) × Siblings l.s l.i l.known
