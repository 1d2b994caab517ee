use Rattle.std.proofs.Common.{◌≤◌, ◌<◌, ◌∙◌, ap, sym, length, take, rules, tests}
use Rattle.std.specs.Slice.Iter.{iter_rest}
use Rattle.tree.proofs.LastLaws.{IsLast-from_rposition}
use Rattle.tree.proofs.LeftSteps as st
use Rattle.tree.proofs.subtree.left.Goals as goal

pub unwrap-requires : goal.unwrap-requires
unwrap-requires c =
    let s = c.args.s.now in
    let j = c.args.j in
    let said = c.rposition.ensures.runs in
    let deeper = c.least_deeper-deeper.result in
    st.some_left s j deeper c.least_deeper-deeper.ensures c.requires.0 c.requires.1 c.rposition.result
    (IsLast-from_rposition _ said.0 _ (take j s) (c.iter.ensures.runs_back said.0 said.0.seen) (ap iter_rest said.1 ∙ c.iter.ensures.rest) (λ x. x < deeper) (λ x. deeper ≤ x) c.rposition.result
    (length c.iter.result.rest.now) (sym (ap length c.iter.ensures.rest)) c.rposition.ensures.bound said.2 (λ a r q k. search rules) (λ x k. search (rules, tests)) (λ x k. search (rules, tests)))

pub returns : goal.returns
returns c =
    let s = c.args.s.now in
    let j = c.args.j in
    let said = c.rposition.ensures.runs in
    let deeper = c.least_deeper-deeper.result in
    st.left_found s j deeper c.least_deeper-deeper.ensures c.requires.0 c.requires.1 c.unwrap.result c.rposition.result c.unwrap.ensures
    (IsLast-from_rposition _ said.0 _ (take j s) (c.iter.ensures.runs_back said.0 said.0.seen) (ap iter_rest said.1 ∙ c.iter.ensures.rest) (λ x. x < deeper) (λ x. deeper ≤ x) c.rposition.result
    (length c.iter.result.rest.now) (sym (ap length c.iter.ensures.rest)) c.rposition.ensures.bound said.2 (λ a r q k. search rules) (λ x k. search (rules, tests)) (λ x k. search (rules, tests)))
