use Rattle.std.proofs.Common.{◌≡◌, drop, rules, ◌∙◌}
use Rattle.std.proofs.lemmas.List.{take_rest}
use Rattle.std.proofs.lemmas.Iterator.{IsFirst-from_position, YieldsList-from_slice}
use borrow.Author.Tests.{tests}
use Rattle.text.specs.Text.{line_end}
use Rattle.token.proofs.TokenLaws.{comment_passed}
use Rattle.token.proofs.skip_comment.Goals as goal

pub returns-clause-text_value : goal.returns-clause-text_value
returns-clause-text_value c =
    let s = c.args.text.now in let at = c.args.at in
    let first = comment_passed s at c.position.result (IsFirst-from_position _ _ _ (λ b. b ≡ line_end) (λ b. ¬ (b ≡ line_end)) c.position.ensures.ran (YieldsList-from_slice (drop at s) (c.iter.ensures.rest ∙ take_rest s at)) (λ x q k. search (rules, tests)) (λ x q k. search (rules, tests))) in
    rw (c.unwrap_or.ensures, take_rest s at) first
