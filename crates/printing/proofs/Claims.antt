-- The claims of specs/Claims, proved.
use mathlib.Core.Path.{◌≡◌, refl, sym, ap, ◌∙◌}
use mathlib.Core.Logic.{◌⊎◌, inl, inr}
use mathlib.Core.List.{List, [], ◌++◌, append_assoc, append-nil}
use Prim.Native.Nat.{ℕ, ◌*◌}
use native.Mathlib.Omega.{arith}
use lib.ListN.{length, take, length-append}
use Rattle.paper.specs.Paper.{page_bytes, Block}
use Rattle.layout.specs.Pages.{key_pages}
use Rattle.layout.specs.Claims.{SizeClaim}
use Rattle.layout.proofs.Claims.{size_claim}
use Rattle.printing.specs.Printing.{on_new_pages, still_to_print}
use Rattle.printing.specs.Claims.{GivesPages, no_page_yet, a_page, InTurnClaim, AllPagesClaim, NoPageClaim}
use Rattle.printing.specs.declared.Printing.{Printing}
use Rattle.printing.proofs.PageLaws.{new_pages}

in_turn : {fleet : List ℕ} {printing after : Printing} {pages : ℕ} {given : List ℕ} → GivesPages fleet printing pages given after → (given ++ still_to_print after fleet ≡ still_to_print printing fleet) × (length given ≡ pages * page_bytes)
in_turn no_page_yet = (refl, refl)
in_turn {fleet} {printing} {after} (a_page {printed = printed} {later = later} {page' = page'} p e g) =
    let rest = in_turn g in (
      append_assoc (take printed.len page') later (still_to_print after fleet)
          ∙ ap (λ (s : List ℕ). take printed.len page' ++ s) rest.0
          ∙ sym p.the_rest,
      omega (arith, length-append (take printed.len page') later, p.the_page.size, e, rest.1),
    )

pub in_turn_claim : InTurnClaim
unfolding InTurnClaim
in_turn_claim fleet printing after pages given g = in_turn g

pub all_pages_claim : AllPagesClaim
unfolding AllPagesClaim SizeClaim
all_pages_claim fleet entries printing after pages given fit ahead g none =
    let turn = in_turn g in
    let all : given ≡ key_pages entries
    = sym (append-nil given) ∙ ap (λ (s : List ℕ). given ++ s) (sym none) ∙ turn.0 ∙ ap (λ (given : List Block). on_new_pages given) ahead ∙ new_pages entries in
    (all, omega (arith, turn.1, ap length all, size_claim entries fit))

none_at : {len : ℕ} {left : List ℕ} → (len ≡ page_bytes) ⊎ ((len ≡ 0) × (left ≡ [])) → len ≡ 0 → left ≡ []
none_at (inl w) e = absurd (omega arith)
none_at (inr n) e = n.1

pub no_page_claim : NoPageClaim
unfolding NoPageClaim
no_page_claim printing fleet page printed page' t p = (
  (λ e. none_at p.whole_or_none e),
  (λ e. omega (arith, p.the_page.size, ap length p.the_rest, ap length e, length-append (take printed.len page') (still_to_print printed.printing fleet))),
)
