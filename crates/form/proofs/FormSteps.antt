-- LAWS for `form`: one for each way out of the call.
use mathlib.Core.Logic.{◌≢◌}
use mathlib.Core.Path.{◌≡◌, refl}
use mathlib.Core.Bool.{false, true}
use mathlib.Core.List.{List, ◌++◌}
use Prim.Native.Nat.{ℕ, suc, ◌≤◌, ◌<◌}
use native.Mathlib.Omega.{arith}
use lib.ListN.{length, take, drop}
use lib.Seq.{take-append_seam, drop-append_seam}
use Rattle.terms.specs.Tree.{IsTree}
use Rattle.terms.specs.Form.{IsForm}
use Rattle.terms.specs.Refusal.{refusal, output_after, none, also, FirstBroken, this, later}
use Rattle.terms.specs.Tells.{decided}
use Rattle.terms.proofs.DecidedLaws.{said_yes, said_no}
use Rattle.terms.proofs.TreeLaws.{tree?}
use Rattle.terms.proofs.MatchingLaws.{same_length}
use Rattle.terms.proofs.FormLaws.{form_exists, form_unique}
use Rattle.terms.proofs.RefusalLaws.{first_broken_refusal, all_kept_refusal}
use Rattle.fleet.specs.declared.Answer.{Answer}
use Rattle.fleet.specs.declared.Answer.TheVariants.{Done, Refused}
use Rattle.fleet.specs.Answering.{answer}
use Rattle.form.specs.FormCall.{form_of, form_if, form_rules, form_answer, form_output}

module _ (s d copied : List ℕ) (e : copied ≡ s ++ drop (length s) d) where
  pub front_copied : take (length s) copied ≡ s
  front_copied = rw e (take-append_seam s (drop (length s) d))

  pub tree_copied : IsTree s → IsTree (take (length s) copied)
  tree_copied t = rw front_copied t

  pub rest_stays : drop (length s) copied ≡ drop (length s) d
  rest_stays = rw e (drop-append_seam s (drop (length s) d))

-- `form_of` gives the form
pub form_of_is : (s : List ℕ) → IsTree s → IsForm s (form_of s)
unfolding form_of form_if
form_of_is s t = go (tree? s)
  where
    go : (d : Dec (IsTree s)) → IsForm s (form_if s d)
    go (yes h) = (form_exists s h).1
    go (no h) = absurd (h t)

-- what the call answers and leaves
abbrev Ends : (tree output : List ℕ) → Answer → List ℕ → Type 0
Ends tree output r left = (r ≡ form_answer tree output) × (left ≡ form_output tree output)

refused : (tree output : List ℕ) (n : ℕ) → FirstBroken (suc n) (form_rules tree output) → Ends tree output (Refused (suc n)) output
unfolding form_answer form_output answer output_after
refused tree output n b = let e : refusal (form_rules tree output) ≡ suc n = first_broken_refusal b in (rw e, rw e)

pub refused_size : (tree output : List ℕ) → ¬ ((1 ≤ length tree) × (length tree ≤ 256)) → Ends tree output (Refused 13) output
refused_size tree output h = refused tree output 12 (this h refl)

pub refused_tree : (tree output : List ℕ) → length tree ≢ 0 → length tree ≤ 256 → false ≡ decided (tree? tree) → Ends tree output (Refused 14) output
refused_tree tree output a b h = refused tree output 13 (later (omega arith, b) (this (said_no (tree? tree) h) refl))

pub refused_output : (tree output : List ℕ) → length tree ≢ 0 → length tree ≤ 256 → true ≡ decided (tree? tree) → length output < length tree → Ends tree output (Refused 17) output
refused_output tree output a b h l = refused tree output 16 (later (omega arith, b) (later (said_yes (tree? tree) h) (this (λ q. omega arith) refl)))

pub answered : (tree output copied f : List ℕ) → length tree ≢ 0 → length tree ≤ 256 → true ≡ decided (tree? tree) → length tree ≤ length output → copied ≡ tree ++ drop (length tree) output
    → IsForm (take (length tree) copied) f → Ends tree output (Done (length tree)) (f ++ drop (length tree) copied)
unfolding form_answer form_output answer output_after
answered tree output copied f a b h l c g' =
    let t : IsTree tree = said_yes (tree? tree) h in
    let e : refusal (form_rules tree output) ≡ 0 = all_kept_refusal (also (omega arith, b) (also t (also l none))) in
    let g : IsForm tree f = rw (front_copied tree output copied c) at g' in
    let q : f ≡ form_of tree = form_unique g (form_of_is tree t) in
    let z : length tree ≡ length (form_of tree) = same_length (form_of_is tree t).same in
    (rw e, rw (e, rest_stays tree output copied c, q, z))
