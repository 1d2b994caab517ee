use Rattle.std.specs.Ordering.{nat_cmp, is_lt}
use Rattle.std.proofs.lemmas.Cmp.{same_from_slice_cmp_tested}
use Rattle.tree.proofs.SliceOrder as st
use Rattle.tree.proofs.subtree.lighter.Goals as goal

pub returns : goal.returns
returns c =
    let s = c.args.s.now in
    rw (st.slice_is s c.args.i c.args.e, st.slice_is s c.args.j c.args.f)
    (same_from_slice_cmp_tested nat_cmp is_lt st.says st.both st.first st.second st.more _ _ _ c.lt.ensures)
