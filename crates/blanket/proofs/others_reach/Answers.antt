use native.Mathlib.Omega.{arith}
use Rattle.fleet.proofs.TellsLaws.{told_yes}
use Rattle.blanket.proofs.ReachLaws as l
use Rattle.blanket.proofs.others_reach.Goals as goal

pub loop-leaf-init : goal.loop-leaf-init
loop-leaf-init c = l.others_start c.requires

pub equal_leaves-requires : goal.equal_leaves-requires
equal_leaves-requires c = (c.requires.few, omega (arith, c.loop-leaf.invariant.within))

pub loop-leaf-preserved-then-equal_leaves : goal.loop-leaf-preserved-then-equal_leaves
loop-leaf-preserved-then-equal_leaves c = l.others_equal c.requires c.loop-leaf.invariant c.loop-leaf-test.true (told_yes c.equal_leaves.result c.equal_leaves.ensures c.if-equal_leaves.true)

pub turned_reaches-requires : goal.turned_reaches-requires
turned_reaches-requires c = (c.requires, omega (arith, c.loop-leaf.invariant.within, c.loop-leaf-test.true))

pub returns-then-turned_reaches : goal.returns-then-turned_reaches
returns-then-turned_reaches c = l.others_yes c.requires c.turned_reaches.result c.turned_reaches.ensures c.if-turned_reaches.true

pub loop-leaf-preserved : goal.loop-leaf-preserved
loop-leaf-preserved c = l.others_next c.requires c.loop-leaf.invariant c.loop-leaf-test.true (c.turned_reaches.ensures.no_told c.if-turned_reaches.false)

pub returns : goal.returns
returns c = l.others_no c.requires c.loop-leaf.invariant c.loop-leaf-test.false
