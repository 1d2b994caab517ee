-- What the functions that note the extensions of a pattern for a vehicle are given, and what they do to the two tables: `counts` has for each pair
-- in how many vehicles it was noted, `last` the number of the vehicle for which it was noted last.
use Rattle.std.specs.Prelude.{◌≡◌, ◌↔◌, ◌⊎◌, List, ℕ, suc, ◌+◌, ◌-◌, ◌*◌, ◌%◌, ◌≤◌, ◌<◌, length, get_or}
use Rattle.terms.specs.Tree.{depthAt, IsTree, IsParent}
use Rattle.terms.specs.Fleet.{IsFleet, most_trees}
use Rattle.rightmost.specs.Ends.{Up, IsChild, children}
use Rattle.rightmost.specs.PlaceList.{Places}
use Rattle.rightmost.specs.Counts.{top_of}
use Rattle.index.specs.Index.{Parents, Sizes, Indexed}

-- Pairs are the numbers below this: depths 0 to 15, 1,000 numbers each.
abbrev pub pair_limit : ℕ
pair_limit = 16000

-- The tables have an entry for each pair of the set, and one that was not noted last for this vehicle may be counted once more.
pub record Room (S : ℕ → Type 0) (number : ℕ) (counts last : List ℕ) : Type 0 where
  pub in_counts : (x : ℕ) → S x → x < length counts
  pub in_last : (x : ℕ) → S x → x < length last
  pub few : (x : ℕ) → S x → ¬ (get_or last x 0 ≡ number) → get_or counts x 0 ≤ most_trees

-- What noting a pair for a vehicle makes of its two entries: it is counted, unless it was noted for that vehicle last.
pub record Once (number last count last' count' : ℕ) : Type 0 where
  pub now_last : last' ≡ number
  pub again : last ≡ number → count' ≡ count
  pub more : ¬ (last ≡ number) → count' ≡ suc count

-- Pairs were noted for a vehicle, each once or not at all, and none but those of a set.
pub record SomeNoted (S : ℕ → Type 0) (number : ℕ) (counts last counts' last' : List ℕ) : Type 0 where
  pub all_counts : length counts' ≡ length counts
  pub all_last : length last' ≡ length last
  pub each : (x : ℕ) → ((get_or counts' x 0 ≡ get_or counts x 0) × (get_or last' x 0 ≡ get_or last x 0)) ⊎ (S x × Once number (get_or last x 0) (get_or counts x 0) (get_or last' x 0) (get_or counts' x 0))

-- All of the set were.
pub record AllNoted (S : ℕ → Type 0) (number : ℕ) (counts last counts' last' : List ℕ) : Type 0 where
  pub some : SomeNoted S number counts last counts' last'
  pub all : (x : ℕ) → S x → get_or last' x 0 ≡ number

-- THE CHILDREN OF A NODE d

-- The pair x, one that passes, is that of a child of d less `above`, which is 1,000 for each level that the pattern's root is placed below a root.
pub record ChildPair (Q : ℕ → Type 0) (fleet : List ℕ) (d above x : ℕ) : Type 0 where
  pub kid : ℕ
  pub is_kid : IsParent fleet d kid
  pub pair : get_or fleet kid 0 ≡ x + above
  pub passes : Q x

-- A node d whose children may be noted: `above` takes nothing from a depth that it does not have.
pub record ChildrenToNote (Q : ℕ → Type 0) (fleet sizes : List ℕ) (d above number : ℕ) (counts last : List ℕ) : Type 0 where
  pub is_fleet : IsFleet fleet
  pub has_sizes : Sizes fleet sizes
  pub inside : d < length fleet
  pub no_deeper : above ≤ depthAt fleet d * 1000
  pub room : Room (ChildPair Q fleet d above) number counts last

-- A child's pair x passes: it is lighter than the heaviest pair that may come, or is that pair and d has more such children than the pattern's node.
abbrev pub Passes : (fleet : List ℕ) (d heaviest equal x : ℕ) → Type 0
Passes fleet d heaviest equal x = (x < heaviest) ⊎ ((x ≡ heaviest) × (equal < children fleet d (x % 1000)))

-- The pairs that pass are those below this limit.
abbrev pub LimitAt : (fleet : List ℕ) (d heaviest equal limit : ℕ) → Type 0
LimitAt fleet d heaviest equal limit = (x c : ℕ) → IsChild fleet d (x % 1000) c → (x < limit) ↔ Passes fleet d heaviest equal x

-- ONE PLACE of the pattern's last node, whose depth in the pattern is `depth`. P tells which pairs of children of the place's ancestor d at a level
-- of the branch pass.

-- The pair x passes at some level of the branch: it is that of a child of the place's ancestor there.
pub record PlacePair (P : (level d x : ℕ) → Type 0) (fleet : List ℕ) (depth place x : ℕ) : Type 0 where
  pub level : ℕ
  pub no_deeper : level ≤ depth
  pub d : ℕ
  pub up : Up fleet d (depth - level) place
  pub kid : ℕ
  pub is_kid : IsParent fleet d kid
  pub pair : get_or fleet kid 0 ≡ x + (depthAt fleet place - depth) * 1000
  pub passes : P level d x

-- `seen` has for each level the ancestor there of a place that was gone through before; what it holds at first is none.
pub record PlaceToNote (P : (level d x : ℕ) → Type 0) (fleet parents sizes : List ℕ) (place depth number : ℕ) (seen counts last : List ℕ) : Type 0 where
  pub is_fleet : IsFleet fleet
  pub has_parents : Parents fleet parents
  pub has_sizes : Sizes fleet sizes
  pub inside : place < length fleet
  pub no_deeper : depth ≤ depthAt fleet place
  pub all_seen : length seen ≡ 16
  pub room : Room (PlacePair P fleet depth place) number counts last

-- The pairs of the place were noted, but for those of a level whose ancestor was seen before, and of the levels above it.
pub record PlaceNoted (P : (level d x : ℕ) → Type 0) (fleet : List ℕ) (place depth number : ℕ) (seen counts last seen' counts' last' : List ℕ) : Type 0 where
  pub some : SomeNoted (PlacePair P fleet depth place) number counts last counts' last'
  pub all : (x : ℕ) (z : PlacePair P fleet depth place x)
      → (get_or last' x 0 ≡ number) ⊎ ((k : ℕ) × (z.level ≤ k) × (k ≤ depth) × Up fleet (get_or seen k 0) (depth - k) place)
  pub now_seen : (k : ℕ) → k ≤ depth → (get_or seen' k 0 ≡ get_or seen k 0) ⊎ Up fleet (get_or seen' k 0) (depth - k) place
  pub all_seen : length seen' ≡ 16

-- What passes by the heaviest pair of each level and by how many children the pattern's node has of it.
pub record PassesAt (fleet heaviest equal : List ℕ) (level d x : ℕ) : Type 0 where
  pub by_limit : Passes fleet d (get_or heaviest level 0) (get_or equal level 0) x

-- A place to note so.
pub record LimitsToNote (fleet parents sizes heaviest equal : List ℕ) (place depth number : ℕ) (seen counts last : List ℕ) : Type 0 where
  pub at : PlaceToNote (PassesAt fleet heaviest equal) fleet parents sizes place depth number seen counts last
  pub small : (e : ℕ) → e ≤ depth → get_or heaviest e 0 < pair_limit

-- ALL PLACES

-- A pattern with the places of its last node, the fleet's tables, and tables in which nothing is counted and no vehicle was noted.
pub record GatherFrom (p fleet parents numbers sizes places counts last : List ℕ) : Type 0 where
  pub is_tree : IsTree p
  pub indexed : Indexed fleet parents numbers sizes
  pub listed : Places p fleet places
  pub room_counts : top_of p ≤ length counts
  pub room_last : top_of p ≤ length last
  pub none_counted : (x : ℕ) → x < top_of p → get_or counts x 0 ≡ 0
  pub none_noted : (x : ℕ) → get_or last x 0 ≡ 0
