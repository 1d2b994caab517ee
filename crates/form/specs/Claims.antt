-- The claims about the form; demands 1 and 2 of the letter. `FormClaim` is proved as `form_claim`, and so on, in proofs/Claims.
-- That a tree has one form, and is in it exactly if it is left-heavy, is claimed in terms.
use Rattle.std.specs.Prelude.{◌≡◌, List, ◌++◌, ◌↔◌, ℕ, suc, ◌≤◌, length, take, drop}
use Rattle.terms.specs.Tree.{IsTree}
use Rattle.terms.specs.Matching.{SameTree}
use Rattle.terms.specs.Form.{IsForm, InForm, LeftHeavy}
use Rattle.terms.specs.Refusal.{FirstBroken, AllKept}
use Rattle.fleet.specs.declared.Answer.TheVariants.{Done, Refused}
use Rattle.form.specs.FormCall.{form_of, form_rules, form_answer, form_output}

-- DEMAND 2. "A tree's form is the heaviest depth-label sequence of the 2003 Unot paper."
abbrev pub FormClaim : Type 0
FormClaim = (tree : List ℕ) → IsTree tree → IsForm tree (form_of tree)

abbrev pub FormExactly : Type 0
FormExactly = (tree form : List ℕ) → IsTree tree → (form_of tree ≡ form) ↔ IsForm tree form

-- A tree is its own form exactly if it is in its form; "equivalently, each child's subtree is no lighter than its right neighbour's".
abbrev pub OwnFormExactly : Type 0
OwnFormExactly = (tree : List ℕ) → IsTree tree → (form_of tree ≡ tree) ↔ InForm tree

abbrev pub OwnFormLeftHeavy : Type 0
OwnFormLeftHeavy = (tree : List ℕ) → IsTree tree → (form_of tree ≡ tree) ↔ LeftHeavy tree

-- A form's form is itself.
abbrev pub FormAgain : Type 0
FormAgain = (tree : List ℕ) → IsTree tree → form_of (form_of tree) ≡ form_of tree

-- Two trees have the same form exactly if they are "the same up to the order of children, or one unordered tree".
abbrev pub SameFormExactly : Type 0
SameFormExactly = (tree other : List ℕ) → IsTree tree → IsTree other → (form_of tree ≡ form_of other) ↔ SameTree tree other

-- 001, lemma 4: each beginning of a form that is not empty is a form.
abbrev pub BeginningClaim : Type 0
BeginningClaim = (tree : List ℕ) (n : ℕ) → suc n ≤ length tree → InForm tree → form_of (take (suc n) tree) ≡ take (suc n) tree

-- DEMAND 1 of the call. What breaks a rule "gets the number of that rule, and lent memory then holds what it held before".
abbrev pub FormRefusedExactly : Type 1
FormRefusedExactly = (tree output : List ℕ) (n : ℕ) → 1 ≤ n → (form_answer tree output ≡ Refused n) ↔ FirstBroken n (form_rules tree output)

abbrev pub FormUntouched : Type 1
FormUntouched = (tree output : List ℕ) (n : ℕ) → 1 ≤ n → FirstBroken n (form_rules tree output) → form_output tree output ≡ output

-- "A call that breaks no rule is not refused"; the output then begins with the form, and "nothing past the length of the result is written".
abbrev pub FormAnsweredExactly : Type 1
FormAnsweredExactly = (tree output : List ℕ) → (form_answer tree output ≡ Done (length tree)) ↔ AllKept (form_rules tree output)

abbrev pub FormWritten : Type 1
FormWritten = (tree output : List ℕ) → AllKept (form_rules tree output) → form_output tree output ≡ form_of tree ++ drop (length tree) output
