-- Document 02, "Remarks no longer count": nodes that are left out. They stay in the tree and keep their numbers, but take no part in occurrence.
-- Here they are any set `Out` of positions; remarks are one (specs/Remarks).
use Rattle.std.specs.Prelude.{List, [], ◌∷◌, ℕ, suc, ◌+◌, ◌-◌, ◌<◌, length, get_or}
use Rattle.terms.specs.Tree.{IsParent}
use Rattle.terms.specs.Order.{Lighter}
use Rattle.terms.specs.Matching.{placeAt}
use Rattle.terms.specs.Placing.{Placing}

-- What may be left out of a tree: never the root, and with a node all below it.
pub record LeftOut (tree : List ℕ) (Out : ℕ → Type 0) : Type 0 where
  pub root_stays : ¬ Out 0
  pub with_all_below : (i j : ℕ) → IsParent tree i j → Out i → Out j

-- The same for trees end to end; the positions run through all of them.
unfoldable pub LeftOutOfEach : List (List ℕ) → (Out : ℕ → Type 0) → Type 0
LeftOutOfEach [] Out = Unit {0}
LeftOutOfEach (tree ∷ trees) Out = LeftOut tree Out × LeftOutOfEach trees (λ i. Out (length tree + i))

-- A placing at nodes that count: one of document 01, in the whole tree with the numbers of all its nodes, that sends no pattern node to a node
-- left out.
pub record PlacingWithout (Out : ℕ → Type 0) (pattern tree tuple : List ℕ) : Type 0 where
  pub placing : Placing pattern tree tuple
  pub avoids : (i : ℕ) → i < length pattern → ¬ Out (placeAt tuple i)

-- The pattern occurs in the tree, at nodes that count.
pub record OccursWithout (Out : ℕ → Type 0) (pattern tree : List ℕ) : Type 0 where
  pub tuple : List ℕ
  pub placing : PlacingWithout Out pattern tree tuple

-- "The placing shown is the heaviest tuple of node numbers", among these.
pub record HeaviestWithout (Out : ℕ → Type 0) (pattern tree tuple : List ℕ) : Type 0 where
  pub placing : PlacingWithout Out pattern tree tuple
  pub none_heavier : (other : List ℕ) → PlacingWithout Out pattern tree other → ¬ Lighter tuple other

-- What is to be shown of a pattern in a tree: its heaviest placing, or that there is none.
pub data ShownWithout (Out : ℕ → Type 0) (pattern tree : List ℕ) : Type 0 where
  placed : (tuple : List ℕ) → HeaviestWithout Out pattern tree tuple → ShownWithout Out pattern tree
  nowhere : ¬ OccursWithout Out pattern tree → ShownWithout Out pattern tree

-- One number more in front, unless its node is left out.
unfoldable pub unless : {A : Type 0} → Dec A → ℕ → List ℕ → List ℕ
unless (yes _) x s = s
unless (no _) x s = x ∷ s

-- A tree, or a fleet, without the nodes left out: the pairs of the others, in their order.
unfoldable pub remaining : {Out : ℕ → Type 0} → ((i : ℕ) → Dec (Out i)) → List ℕ → List ℕ
remaining out? [] = []
remaining out? (x ∷ s) = unless (out? 0) x (remaining (λ i. out? (suc i)) s)

-- The numbers that these keep, where the first node of s has this number.
unfoldable pub numbers_remaining : {Out : ℕ → Type 0} → ((i : ℕ) → Dec (Out i)) → (number : ℕ) → List ℕ → List ℕ
numbers_remaining out? number [] = []
numbers_remaining out? number (x ∷ s) = unless (out? 0) number (numbers_remaining (λ i. out? (suc i)) (suc number) s)

-- A tuple of node numbers of the tree without them, in the numbers that the nodes keep.
unfoldable pub carried_back : (numbers tuple : List ℕ) → List ℕ
carried_back numbers [] = []
carried_back numbers (n ∷ tuple) = get_or numbers (n - 1) 0 ∷ carried_back numbers tuple

-- Trees end to end, each without its nodes left out.
unfoldable pub each_remaining : {Out : ℕ → Type 0} → ((i : ℕ) → Dec (Out i)) → List (List ℕ) → List (List ℕ)
each_remaining {Out = Out} out? [] = []
each_remaining {Out = Out} out? (tree ∷ trees) = remaining out? tree ∷ each_remaining {Out = λ x. Out (length tree + x)} (λ i. out? (length tree + i)) trees
