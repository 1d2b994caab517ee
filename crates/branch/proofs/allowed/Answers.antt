use Rattle.fleet.proofs.TellsLaws.{told_yes, told_no}
use Rattle.branch.proofs.BranchLimit as b
use Rattle.branch.proofs.allowed.Goals as goal

pub repeats-requires : goal.repeats-requires
repeats-requires c = b.left_neighbour c.requires c.left-i.ensures

pub returns-then-repeats : goal.returns-then-repeats
returns-then-repeats c = rw c.min.ensures (b.allowed_more c.requires (b.left_neighbour c.requires c.left-i.ensures) (told_yes _ c.repeats.ensures c.if-repeats.true))

pub returns-else-repeats : goal.returns-else-repeats
returns-else-repeats c = b.allowed_other c.requires (b.left_neighbour c.requires c.left-i.ensures) (told_no _ c.repeats.ensures c.if-repeats.false)

pub returns-else-pattern-j : goal.returns-else-pattern-j
returns-else-pattern-j c = b.allowed_alone c.requires c.if-pattern-j.false
