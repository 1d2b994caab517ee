-- Document 01's worked example: what the key program writes on its input.
use mathlib.Core.Path.{◌≡◌, sym, ap, ◌∙◌}
use native.Mathlib.Decide.{dec_le}
use native.Mathlib.Omega.{arith}
use Rattle.sheet.specs.Reading.{pairs_said}
use Rattle.sheet.proofs.SheetCases.{whole, whole_says}
use Rattle.cases.specs.Cases.{the_fleet, at_2_and_3}
use Rattle.cases.specs.Examples.{the_lines}
use Rattle.cases.proofs.Worked.{worked_example}
use Rattle.text.specs.Text.{unless_zero, digits, decimal, pair_text}
use Rattle.lines.specs.Lines.{pairs_text, form_line}
use Rattle.run.specs.Running.{lines}
use Rattle.opening.specs.Asking.{asked_for, refusal_after, refusal_for}
use Rattle.key.specs.Input.{asked_by, input_refusal}
use Rattle.key.specs.Output.{key_output}
use Rattle.key.specs.Claims.{ListedClaim}
use Rattle.listing.proofs.StartStepLaws.{in_limits}
use Rattle.listing.proofs.ListLaws.{list_unique}
use Rattle.entries.specs.Entries.{list_of, list_is}
use Rattle.paper.specs.Paper.{row, fields, first_line, further_lines, form_lines, bytes_of}
use Rattle.layout.specs.Pages.{blocks, laid, pages_from, key_pages, number_of_pages}
use Rattle.key.proofs.Claims.{listed_claim}
use Rattle.key_cases.specs.Worked.{worked_input, worked_output, worked_page}

not_refused : input_refusal worked_input ≡ 0
unfolding worked_input refusal_for refusal_after whole
not_refused = rw whole_says (sym (in_limits (record { threshold = 2; bound = 3; profile = 0 }) (omega arith) (omega arith) (omega arith) (omega arith) (omega arith)))

what_is_asked : asked_by worked_input ≡ at_2_and_3
unfolding worked_input asked_for pairs_said the_fleet at_2_and_3 whole
what_is_asked = rw whole_says

-- "Given whole": from the bytes of the input to the bytes of the output.
pub worked_output_is : key_output worked_input ≡ worked_output
unfolding ListedClaim the_lines worked_output lines form_line decimal digits unless_zero pairs_text pair_text
worked_output_is = listed_claim worked_input the_lines not_refused (rw what_is_asked worked_example)

-- The same on paper: its list is on one page.
the_list : list_of at_2_and_3 ≡ the_lines
the_list = list_unique (list_is at_2_and_3) worked_example

pub worked_page_is : key_pages (list_of (asked_by worked_input)) ≡ worked_page
unfolding the_lines worked_page key_pages laid blocks dec_le form_lines first_line further_lines fields row bytes_of decimal digits unless_zero pair_text
worked_page_is = ap (λ a. key_pages (list_of a)) what_is_asked ∙ ap key_pages the_list

pub one_page : number_of_pages (list_of (asked_by worked_input)) ≡ 1
unfolding the_lines number_of_pages pages_from blocks dec_le form_lines further_lines
one_page = ap (λ a. number_of_pages (list_of a)) what_is_asked ∙ ap number_of_pages the_list
