-- The claims of specs/Claims, proved.
use native.Mathlib.Omega.{arith}
use lib.ListN.{drop}
use Rattle.sheet.proofs.FirstBytes.{first_bytes_decide}
use Rattle.header.specs.Claims.{AllReadClaim}
use Rattle.header.proofs.Claims.{all_read_claim}
use Rattle.opening.specs.Claims as O
use Rattle.opening.proofs.Claims as o
use Rattle.key.specs.Input.{request_by, sheet_of}
use Rattle.key.specs.Claims.{RefusedOutputClaim, ListedClaim, SheetKeptClaim, InputKeptClaim}

pub refused_output_claim : RefusedOutputClaim
unfolding RefusedOutputClaim O.RefusedSheetClaim
refused_output_claim input = o.refused_sheet_claim (request_by input) (sheet_of input)

pub listed_claim : ListedClaim
unfolding ListedClaim O.ListedSheetClaim
listed_claim input = o.listed_sheet_claim (request_by input) (sheet_of input)

pub sheet_kept_claim : SheetKeptClaim
unfolding SheetKeptClaim
sheet_kept_claim input = first_bytes_decide (drop 2 input)

pub input_kept_claim : InputKeptClaim
unfolding InputKeptClaim AllReadClaim
input_kept_claim input = let z = all_read_claim 2 input in rw (z.0 0 (omega arith), z.0 1 (omega arith), z.1)
