use Rattle.std.proofs.Common.{◌≡◌, ◌≤◌, ◌<◌, length, get_or, arith, sym, ap, ◌∙◌, rules}
use Rattle.token.specs.Token.{line_over}
use Rattle.token.proofs.TokenLaws as tk
use Rattle.token.proofs.token_at.Goals as goal

pub returns-in_default-clause-text_value : goal.returns-in_default-clause-text_value
returns-in_default-clause-text_value c =
    let s = c.args.text.now in let i = c.skip_blanks-i.result in
    let over : length s ≤ i = search rules in
    tk.front_end s i over ∙ tk.token_is s c.args.at i c.skip_blanks-i.ensures.text_value

pub returns-then-b-eq10-clause-text_value : goal.returns-then-b-eq10-clause-text_value
returns-then-b-eq10-clause-text_value c =
    let s = c.args.text.now in let i = c.skip_blanks-i.result in
    let inside : i < length s = search rules in
    let read : get_or s i 0 ≡ c.in-Some.field-0.now = search rules in
    tk.front_line s i inside (read ∙ c.if-b-eq10.true) ∙ tk.token_is s c.args.at i c.skip_blanks-i.ensures.text_value

pub returns-then-b-ne35-clause-text_value : goal.returns-then-b-ne35-clause-text_value
returns-then-b-ne35-clause-text_value c =
    let s = c.args.text.now in let i = c.skip_blanks-i.result in
    let inside : i < length s = search rules in
    let read : get_or s i 0 ≡ c.in-Some.field-0.now = search rules in
    c.pair_at.ensures.text_value ∙ tk.front_pair s i inside (λ e. c.if-b-eq10.false (sym read ∙ e)) (λ e. c.if-b-ne35.true (sym read ∙ e)) ∙ tk.token_is s c.args.at i c.skip_blanks-i.ensures.text_value

pub returns-then-end-text-clause-text_value : goal.returns-then-end-text-clause-text_value
returns-then-end-text-clause-text_value c =
    let s = c.args.text.now in let i = c.skip_blanks-i.result in
    let inside : i < length s = search rules in
    let read : get_or s i 0 ≡ c.in-Some.field-0.now = search rules in
    tk.over_end s c.skip_comment-end.result (omega arith) ∙ ap line_over c.skip_comment-end.ensures.text_value ∙ tk.front_comment s i inside (λ e. c.if-b-eq10.false (sym read ∙ e)) (read ∙ c.if-b-ne35.false)
    ∙ tk.token_is s c.args.at i c.skip_blanks-i.ensures.text_value

pub returns-clause-text_value : goal.returns-clause-text_value
returns-clause-text_value c =
    let s = c.args.text.now in let i = c.skip_blanks-i.result in
    let inside : i < length s = search rules in
    let read : get_or s i 0 ≡ c.in-Some.field-0.now = search rules in
    tk.over_line s c.skip_comment-end.result (omega arith) ∙ ap line_over c.skip_comment-end.ensures.text_value ∙ tk.front_comment s i inside (λ e. c.if-b-eq10.false (sym read ∙ e)) (read ∙ c.if-b-ne35.false)
    ∙ tk.token_is s c.args.at i c.skip_blanks-i.ensures.text_value
