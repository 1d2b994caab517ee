-- The claims of specs/Claims, proved.
use mathlib.Core.Path.{◌≡◌}
use Prim.Native.Nat.{◌+◌, ◌*◌}
use native.Mathlib.Omega.{arith}
use lib.ListN.{drop}
use Rattle.sheet.proofs.FirstBytes.{first_bytes_decide}
use Rattle.header.specs.Claims.{AllReadClaim}
use Rattle.header.proofs.Claims.{all_read_claim}
use Rattle.opening.specs.Claims.{RefusedSheetClaim, ListedSheetClaim}
use Rattle.opening.proofs.Claims.{refused_sheet_claim, listed_sheet_claim}
use Rattle.list_main.specs.Header.{header_bytes, list_request, list_sheet}
use Rattle.list_main.specs.Claims.{SameAsKeyClaim, ListRefusedClaim, ListListedClaim, ListSheetKeptClaim, ListInputKeptClaim}

pub same_as_key_claim : SameAsKeyClaim
unfolding SameAsKeyClaim
same_as_key_claim threshold bound sheet = let e : threshold + 256 * 0 ≡ threshold = omega arith in rw e

pub list_refused_claim : ListRefusedClaim
unfolding ListRefusedClaim RefusedSheetClaim
list_refused_claim input = refused_sheet_claim (list_request input) (list_sheet input)

pub list_listed_claim : ListListedClaim
unfolding ListListedClaim ListedSheetClaim
list_listed_claim input = listed_sheet_claim (list_request input) (list_sheet input)

pub list_sheet_kept_claim : ListSheetKeptClaim
unfolding ListSheetKeptClaim
list_sheet_kept_claim input = first_bytes_decide (drop header_bytes input)

pub list_input_kept_claim : ListInputKeptClaim
unfolding ListInputKeptClaim AllReadClaim
list_input_kept_claim input =
    let z = all_read_claim header_bytes input in
    rw (z.0 0 (omega arith), z.0 1 (omega arith), z.0 2 (omega arith), z.0 3 (omega arith), z.1)
