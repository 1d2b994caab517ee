use Rattle.register.proofs.RegisterLaws as l
use Rattle.register.proofs.is_register.Goals as goal

pub add_all-requires : goal.add_all-requires
add_all-requires c = l.zeros_input _ c.requires

pub returns-then-starts_with : goal.returns-then-starts_with
returns-then-starts_with c = l.holders_tell c.add_all.ensures _ _ c.starts_with.result c.starts_with-then-starts_with.result c.starts_with.ensures.value c.if-starts_with.true c.starts_with-then-starts_with.ensures.value

pub returns-else-starts_with : goal.returns-else-starts_with
returns-else-starts_with c = l.other_nodes c.add_all.ensures _ _ c.starts_with.result c.starts_with.ensures.value c.if-starts_with.false
