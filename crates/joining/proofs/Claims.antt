-- The claims of specs/Claims, proved.
use mathlib.Core.Path.{sym, ap, ◌∙◌}
use Rattle.entries.specs.Entries.{list_of, list_is}
use Rattle.key.specs.Input.{request_by, sheet_of, asked_by}
use Rattle.key.specs.Claims.{ListedClaim}
use Rattle.opening.specs.Asking.{asked_for}
use Rattle.opening.proofs.RequestLaws.{in_limits}
use Rattle.opening.proofs.OpenLaws.{not_refused}
use Rattle.key.proofs.Claims.{listed_claim}
use Rattle.layout.specs.Pages.{key_pages}
use Rattle.layout.proofs.BlockLaws.{laid_rows}
use Rattle.layout.proofs.RoomLaws.{list_room}
use Rattle.joining.specs.Joining.{without_blank_lines, second_lines_joined, without_spare_blanks, joined}
use Rattle.joining.specs.Claims.{JoinedClaim, KeyClaim}
use Rattle.joining.proofs.JoinLaws.{lines_back, laid_kept, blocks_said, all_joined, wholes_said}

pub joined_claim : JoinedClaim
unfolding JoinedClaim joined key_pages
joined_claim entries h =
    ap (λ s. without_spare_blanks (second_lines_joined (without_blank_lines s))) (lines_back (laid_rows 0 h))
    ∙ ap (λ s. without_spare_blanks (second_lines_joined s)) (laid_kept 0 (blocks_said h))
    ∙ ap without_spare_blanks (all_joined h)
    ∙ wholes_said h

pub key_claim : KeyClaim
unfolding KeyClaim JoinedClaim ListedClaim asked_for
key_claim input e =
    let z = not_refused (request_by input) (sheet_of input) e in
    let l = list_is (asked_by input) in
    joined_claim (list_of (asked_by input)) (list_room (asked_by input) (list_of (asked_by input)) z.is_fleet (in_limits (request_by input) z.in_limits).bound_to_most l) ∙ sym (listed_claim input (list_of (asked_by input)) e l)
