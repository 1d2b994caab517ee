-- The claims of specs/Claims, proved.
use mathlib.Core.Path.{◌≡◌, refl, ap, ◌∙◌}
use mathlib.Core.List.{[], ◌∷◌}
use Prim.Native.Nat.{◌+◌}
use native.Mathlib.Omega.{arith}
use lib.ListN.{length}
use Rattle.paper.specs.Paper.{end_block, bytes_of, Each}
use Rattle.paper.specs.Claims.{IsRow}
use Rattle.layout.specs.Pages.{blocks, all_filled, concat, laid, pages_from, key_pages, number_of_pages}
use Rattle.layout.specs.Claims.{RoomClaim, OnPagesClaim, UniqueClaim, SizeClaim, EdgesClaim}
use Rattle.layout.proofs.LaidLaws.{count_here, Paged, paged, laid_pages, every_page_filled}
use Rattle.layout.proofs.BlockLaws.{blocks_fit, laid_rows, pages_length, one_lines_here}
use Rattle.layout.proofs.UniqueLaws.{pages_unique}
use Rattle.layout.proofs.RoomLaws.{list_room}

pub room_claim : RoomClaim
unfolding RoomClaim
room_claim = list_room

pub on_pages_claim : OnPagesClaim
unfolding OnPagesClaim key_pages number_of_pages concat
on_pages_claim entries h =
    let r : Paged 0 (blocks entries) = paged 0 (omega arith) (blocks_fit entries) in
    let e : laid 0 (blocks entries) ≡ all_filled (r.page ∷ r.later) = laid_pages r in
    let every : Each IsRow (laid 0 (blocks entries)) = laid_rows 0 h in
    record {
      pages = r.page ∷ r.later;
      are_pages = record { all_in_order = r.in_order; left_late = r.turns };
      laid_so = ap bytes_of e;
      every_page = every_page_filled r.turns;
      every_line = rw e at every;
      how_many = r.count;
    }

pub unique_claim : UniqueClaim
unfolding UniqueClaim
unique_claim entries pages other a b = pages_unique 0 pages other (blocks_fit entries) a.left_late b.left_late a.all_in_order b.all_in_order

pub size_claim : SizeClaim
unfolding SizeClaim key_pages number_of_pages
size_claim entries h = omega (arith, pages_length 0 (omega arith) h)

pub edges_claim : EdgesClaim
unfolding blocks laid pages_from number_of_pages
edges_claim = record {
  empty_pages = refl;
  empty_lines = refl;
  last_pages = refl;
  last_lines = refl;
  full_pages = refl;
  full_lines = refl;
  full_list = λ entries h e. one_lines_here 0 h (omega arith) ∙ ap (λ n. pages_from (0 + n) (blocks [])) e;
  fewer = λ entries h l. one_lines_here 0 h (omega arith) ∙ count_here (0 + length entries) end_block [] (omega arith);
  two_over = λ first second later. refl;
  two_stay = λ first second later. refl;
}
