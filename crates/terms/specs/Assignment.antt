-- "All in different places": numbers are given places of their own, over any E (`E x r`: x may have place r) and L (`L x`: x is to have one).
-- For the pattern's children and the places where they fit see Fits.
use Rattle.std.specs.Prelude.{◌≡◌, Bool, true, false, List, [], ◌∷◌, ℕ, suc, ◌<◌, length, get_or}

-- Where places are being given, `get_or places x 0` is the place of x, 0 where it has none; `get_or visited x false` says whether a path went through x.
-- Place r is held by one that was visited.
pub record HeldByVisited (visited : List Bool) (places : List ℕ) (r : ℕ) : Type 0 where
  pub holder : ℕ
  pub matched : get_or places holder 0 ≡ r
  pub was_visited : get_or visited holder false ≡ true

-- How many were not visited yet.
abbrev pub unvisited : List Bool → ℕ
unvisited [] = 0
unvisited (true ∷ s) = unvisited s
unvisited (false ∷ s) = suc (unvisited s)

module _ (E : ℕ → ℕ → Type 0) (L : ℕ → Type 0) where
  -- Each one of L has a place below m of its own.
  pub record Covering (m : ℕ) : Type 0 where
    pub to : ℕ → ℕ
    pub inside : (i : ℕ) → L i → to i < m
    pub edge : (i : ℕ) → L i → E i (to i)
    pub inj : (i j : ℕ) → L i → L j → to i ≡ to j → i ≡ j

  -- Those that have a place may have it, and no other has it.
  pub record PartialMatching (places : List ℕ) : Type 0 where
    pub allowed : (x : ℕ) → ¬ (get_or places x 0 ≡ 0) → L x × E x (get_or places x 0)
    pub apart : (x y : ℕ) → ¬ (get_or places x 0 ≡ 0) → get_or places x 0 ≡ get_or places y 0 → x ≡ y

  -- u got a place, and places became places': those visited before did not move, and u's old place is empty.
  pub record Augmented (u : ℕ) (visited : List Bool) (places places' : List ℕ) : Type 0 where
    pub long : length places' ≡ length places
    pub good : PartialMatching places'
    pub keep : (x : ℕ) → get_or visited x false ≡ true → get_or places' x 0 ≡ get_or places x 0
    pub matched : ¬ (get_or places' u 0 ≡ 0)
    pub vacated : (x : ℕ) → ¬ (get_or places u 0 ≡ 0) → ¬ (get_or places' x 0 ≡ get_or places u 0)
    pub stays_free : (x : ℕ) → ¬ (x ≡ u) → get_or places x 0 ≡ 0 → get_or places' x 0 ≡ 0
    pub stays_matched : (x : ℕ) → ¬ (get_or places x 0 ≡ 0) → ¬ (get_or places' x 0 ≡ 0)

  -- No augmenting path goes from u through a place below n, in the order of a depth-first search: a place that u may have is held by
  -- a visited one, and so is every place that a newly visited one may have.
  pub record Exhausted (u n : ℕ) (visited visited' : List Bool) (places : List ℕ) : Type 0 where
    pub here : get_or visited' u false ≡ true
    pub grow : (x : ℕ) → get_or visited x false ≡ true → get_or visited' x false ≡ true
    pub closed : (r : ℕ) → r < n → E u r → HeldByVisited visited' places r
    pub new : (x : ℕ) → get_or visited' x false ≡ true → ¬ (get_or visited x false ≡ true) → ¬ (x ≡ u) → ¬ (get_or places x 0 ≡ 0) × ((r : ℕ) → E x r → HeldByVisited visited' places r)

  -- u got a place along an augmenting path; or there is no such path, and all places are as they were.
  pub data Augmenting (m u : ℕ) (visited : List Bool) (places : List ℕ) (visited' : List Bool) (places' : List ℕ) : Bool → Type 0 where
    found : Augmented u visited places places' → Augmenting m u visited places visited' places' true
    none : places' ≡ places → length visited' ≡ length visited → unvisited visited' < unvisited visited → Exhausted u m visited visited' places → Augmenting m u visited places visited' places' false
