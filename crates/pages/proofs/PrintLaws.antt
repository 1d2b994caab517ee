-- LAWS. Pages printed one after the other.
use mathlib.Core.Path.{◌≡◌, refl, sym, ap, ◌∙◌}
use mathlib.Core.Logic.{⊎_elim}
use mathlib.Core.List.{List, [], ◌++◌, append_assoc, append-nil}
use Prim.Native.Nat.{ℕ, ◌+◌, ◌-◌, ◌*◌, ◌≤◌, ◌<◌}
use native.Mathlib.Omega.{arith}
use lib.ListN.{length, take, drop, length-append, length-drop, drop_of_length-le}
use lib.Seq.{take_all, drop-drop}
use Rattle.text.specs.Building.{Put}
use Rattle.text.proofs.TextLaws.{no_elements, put_none, put_length, then_put}
use Rattle.search.specs.declared.Request.{Request}
use Rattle.listing.specs.Listing.{Asked, asks}
use Rattle.entries.specs.Entries.{list_of}
use Rattle.expansion.specs.Levels.{Tables}
use Rattle.paper.specs.Paper.{page_bytes}
use Rattle.layout.specs.Pages.{blocks}
use Rattle.printing.specs.Printing.{blocks_ahead, on_new_pages, still_to_print, IsPrinting, BeginInput, PageIs}
use Rattle.printing.specs.declared.Printing.{Printing}
use Rattle.printing.specs.declared.Printed.{Printed}
use Rattle.printing.proofs.PageLaws.{new_pages}
use Rattle.pages.specs.PagesCall.{pages_of, pages_needed}
use Rattle.pages.proofs.PagesCallLaws.{size}

-- so many pages are printed
pub record PagesPut (first : Printing) (fleet : List ℕ) (page : ℕ) (printing : Printing) (output output' : List ℕ) (t : Tables) : Type 0 where
  pub is_printing : IsPrinting printing fleet t
  pub given : List ℕ
  pub put : Put output 0 given output' (page * page_bytes)
  pub rest : given ++ still_to_print printing fleet ≡ still_to_print first fleet

pub begins : {first : Printing} {fleet : List ℕ} {t : Tables} (output : List ℕ) → IsPrinting first fleet t → PagesPut first fleet 0 first output output t
begins output is = record { is_printing = is; given = []; put = put_none output 0 (omega arith); rest = refl }

-- what is lent of an output from a position on, and the output when it comes back
abbrev pub lent_from : List ℕ → (at : ℕ) → List ℕ
lent_from a at = take (length a - at) (drop at a)

abbrev pub given_back : List ℕ → (at : ℕ) → (lent : List ℕ) → List ℕ
given_back a at lent = take at a ++ (lent ++ drop (length a - at) (drop at a))

module _ (a : List ℕ) (at : ℕ) (h : at ≤ length a) where
  lent_all : lent_from a at ≡ drop at a
  lent_all = take_all (length a - at) (drop at a) (simp length-drop (omega arith))

  put_from : {b s : List ℕ} {n : ℕ} → Put (lent_from a at) 0 s b n → Put a at s (given_back a at b) (at + n)
  put_from {b} {s} {n} p =
      let none : drop (length a - at) (drop at a) ≡ [] = drop_of_length-le (drop at a) {i = length a - at} (simp length-drop (omega arith)) in
      record {
        is =
            ap (λ (u : List ℕ). take at a ++ (b ++ u)) none ∙ ap (λ (u : List ℕ). take at a ++ u) (append-nil b ∙ p.is ∙ ap (λ (u : List ℕ). s ++ drop n u) lent_all ∙ ap (λ (u : List ℕ). s ++ u) (drop-drop n at a))
            ∙ sym (append_assoc (take at a) s (drop (at + n) a));
        size = omega (arith, p.size);
        within = omega (arith, p.within, ap length lent_all, length-drop at a);
      }

module _ {first printing : Printing} {fleet : List ℕ} {page : ℕ} {output output' : List ℕ} {t : Tables} (c : PagesPut first fleet page printing output output' t) where
  pub same_length : length output' ≡ length output
  same_length = put_length c.put

  pub begun_within : page * page_bytes ≤ length output'
  begun_within = omega (arith, same_length, c.put.within)

  -- there is room for one page more
  pub room : (pages : ℕ) → page < pages → pages * page_bytes ≤ length output → page_bytes ≤ length (lent_from output' (page * page_bytes))
  room pages h k = omega (arith, same_length, ap length (lent_all output' (page * page_bytes) begun_within), length-drop (page * page_bytes) output')

  module _ {request : Request} {t₀ : Tables} (pages : ℕ) (from : blocks_ahead first fleet ≡ blocks (list_of (asks fleet request))) (input : BeginInput fleet request t₀) (counted : pages ≡ pages_needed (asks fleet request)) where
    abbrev asked : Asked
    asked = asks fleet request

    all_pages : still_to_print first fleet ≡ pages_of asked
    all_pages = ap on_new_pages from ∙ new_pages (list_of asked)

    left : length (still_to_print printing fleet) + page * page_bytes ≡ pages * page_bytes
    left = omega (arith, size {asked = asked} (record { is_fleet = input.all.indexed.is_fleet; from_1 = input.from_1; bound_to_most = input.bound_to_most }), ap length all_pages, ap length c.rest, length-append c.given (still_to_print printing fleet), c.put.size)

    -- one page more
    pub goes_on : {printed : Printed} {lent : List ℕ} {t' : Tables} → page < pages → PageIs printing fleet (lent_from output' (page * page_bytes)) printed lent t'
        → PagesPut first fleet (page + 1) printed.printing output (given_back output' (page * page_bytes) lent) t'
    goes_on {printed} {lent} h is =
        let whole : printed.len ≡ page_bytes = ⊎_elim (λ k. k) (λ k. absurd (omega (arith, left, ap length k.1))) is.whole_or_none in
        let next : page * page_bytes + printed.len ≡ (page + 1) * page_bytes = omega arith in
        let put = then_put c.put (put_from output' (page * page_bytes) begun_within is.the_page) in
        record {
          is_printing = is.goes_on;
          given = c.given ++ take printed.len lent;
          put = rw next at put;
          rest = append_assoc c.given (take printed.len lent) (still_to_print printed.printing fleet) ∙ ap (λ (u : List ℕ). c.given ++ u) (sym is.the_rest) ∙ c.rest;
        }

    -- all pages
    pub ends : pages ≤ page → output' ≡ pages_of asked ++ drop (length (pages_of asked)) output
    ends h =
        let none : still_to_print printing fleet ≡ [] = no_elements _ (omega (arith, left)) in
        let all : c.given ≡ pages_of asked = sym (append-nil c.given) ∙ ap (λ (u : List ℕ). c.given ++ u) (sym none) ∙ c.rest ∙ all_pages in
        let end : page * page_bytes ≡ length (pages_of asked) = omega (arith, c.put.size, ap length all) in
        c.put.is ∙ ap (λ (u : List ℕ). u ++ drop (page * page_bytes) output) all ∙ ap (λ (n : ℕ). pages_of asked ++ drop n output) end
