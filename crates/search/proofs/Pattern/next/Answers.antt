use native.Mathlib.Omega.{arith}
use borrow.Author.Rules.{rules}
use mathlib.Core.Path.{refl}
use Rattle.expansion.proofs.LevelTables.{some_pairs}
use Rattle.search.proofs.NextLaws as l
use Rattle.search.proofs.Pattern.next.Goals as goal
use Rattle.search.proofs.Pattern.next.Goals.{then-len-bound+in_default, else-len-bound}

pub arrive-requires : goal.arrive-requires
arrive-requires c = l.reach_input (search rules) c.requires.1

pub loop-len-init : goal.loop-len-init
loop-len-init c = l.begins _ _ _ _ _ _ _ _ _ _ (search rules) c.requires.1 c.arrive.ensures

pub extend-extension-requires : goal.extend-extension-requires
extend-extension-requires c = (c.requires.0, l.level_input c.loop-len.invariant c.if-len-bound.true)

pub offset_bounds-longer-len : goal.offset_bounds-longer-len
offset_bounds-longer-len c = l.doubled_fits (l.len_room c.loop-len.invariant c.if-len-bound.true)

pub bounds-longer-len : goal.bounds-longer-len
bounds-longer-len c = l.len_room c.loop-len.invariant c.if-len-bound.true

pub overflow_add-pattern : goal.overflow_add-pattern
overflow_add-pattern c = l.next_fits (l.len_room c.loop-len.invariant c.if-len-bound.true)

pub shape_of-counts-in-Some : goal.shape_of-counts-in-Some
shape_of-counts-in-Some c = l.as_long c.extend-extension.ensures.remembers c.requires.1 refl

pub returns-in-Some : goal.returns-in-Some
returns-in-Some c = l.next_found c.loop-len.invariant _ c.if-len-bound.true (rw c.in-Some.is at c.extend-extension.ensures.extension_is) c.extend-extension.ensures.remembers

pub shape_of-counts-then-len-eq0 : goal.shape_of-counts-then-len-eq0
shape_of-counts-then-len-eq0 c = elim c.if-len-bound.branch [
  | then-len-bound+in_default w ↦ rw w.counts-is (l.as_long w.extend-extension.ensures.remembers c.requires.1 refl)
  | else-len-bound w ↦ rw w.counts-is (l.as_long c.loop-len.invariant.below c.requires.1 refl)
]

pub returns-then-len-eq0 : goal.returns-then-len-eq0
returns-then-len-eq0 c = let w = c.loop-len.invariant in
    l.next_end _ _ _ w.input (elim c.if-len-bound.branch [
      | then-len-bound+in_default k ↦ l.none_extends w (rw k.in_default.is at k.extend-extension.ensures.extension_is)
      | else-len-bound k ↦ l.none_longer w k.if-len-bound.false
    ]) c.if-len-eq0.true (elim c.if-len-bound.branch [
      | then-len-bound+in_default k ↦ rw (k.counts-is, k.known-is) k.extend-extension.ensures.remembers.all
      | else-len-bound k ↦ rw (k.counts-is, k.known-is) w.below.all
    ])

pub overflow_sub-len : goal.overflow_sub-len
overflow_sub-len c = some_pairs c.if-len-eq0.false

pub offset_bounds-nodes-len : goal.offset_bounds-nodes-len
offset_bounds-nodes-len c = l.doubled_fits (l.shorter_room c.loop-len.invariant c.if-len-eq0.false)

pub bounds-nodes-len : goal.bounds-nodes-len
bounds-nodes-len c = l.shorter_room c.loop-len.invariant c.if-len-eq0.false

pub loop-len-smaller : goal.loop-len-smaller
loop-len-smaller c = l.shorter_less c.if-len-eq0.false

pub loop-len-preserved : goal.loop-len-preserved
loop-len-preserved c = let w = c.loop-len.invariant in
    l.goes_shorter w
    (elim c.if-len-bound.branch [
      | then-len-bound+in_default k ↦ (l.none_extends w (rw k.in_default.is at k.extend-extension.ensures.extension_is), rw (k.counts-is, k.known-is) (l.remembers_less (omega arith) k.extend-extension.ensures.remembers))
      | else-len-bound k ↦ (l.none_longer w k.if-len-bound.false, rw (k.counts-is, k.known-is) w.below)
    ])
    c.if-len-eq0.false
