-- LAWS. Gathering: what may follow the pattern is noted at one place of its last node after another. The pairs that are counted are those of a set S;
-- which of them pass at a place is told by P (`Tested`).
use mathlib.Core.Path.{◌≡◌, refl, sym, ap, ◌∙◌, subst}
use mathlib.Core.Logic.{◌↔◌, ◌⊎◌, inl, inr, ⊎_elim}
use mathlib.Core.List.{List}
use Prim.Native.Nat.{ℕ, zero, suc, ◌+◌, ◌-◌, ◌/◌, ◌%◌, ◌≤◌, ◌<◌}
use native.Mathlib.Omega.{arith}
use native.Mathlib.Decide.{dec_le, ℕ_discrete}
use native.Mathlib.Numerals.{add-one}
use lib.ListN.{length, get_or, replicate, length-replicate}
use Rattle.terms.specs.Tree.{depthAt, IsPair, IsTree}
use Rattle.terms.specs.Fleet.{vehicles, IsFleet, most_trees, most_nodes}
use Rattle.rightmost.specs.Ends.{LastPlace, last_of, Up, OnBranch, IsChild, children, NewChild}
use Rattle.rightmost.specs.PlaceList.{Places, Tally}
use Rattle.rightmost.specs.Vehicles.{VehiclesNumbered, Spare, NotedFrom}
use Rattle.rightmost.specs.Counts.{top_of, CountsFrom}
use Rattle.rightmost.proofs.UpLaws.{up_depth, up_inside}
use Rattle.rightmost.proofs.BranchLaws.{last_inside}
use Rattle.rightmost.proofs.BranchDepths.{branch_at}
use Rattle.rightmost.proofs.LongerLaws.{new_child_at}
use Rattle.rightmost.proofs.TallyLaws.{And, tally_again, tally_more, tally_same, tally_few}
use Rattle.rightmost.proofs.TestLaws.{counted_child, depth_shift, pair_below}
use Rattle.rightmost.proofs.PlaceOrder.{few_places}
use Rattle.rightmost.proofs.GatherLaws.{place_inside, numbers_rise, noted_seen}
use Rattle.rightmost.proofs.LevelLaws.{parent_unique}
use Rattle.rightmost.proofs.CountLaws.{below_top, counts_start}
use Rattle.index.proofs.IndexLaws.{fleet_pair}
use Rattle.index.specs.Index.{Numbers, Indexed}
use Rattle.noting.specs.Noting.{Once, PlacePair, PlaceToNote, PlaceNoted, GatherFrom}

-- ONE TALLY, as a vehicle's number may come: what came are the old ones, and the number where the pair is noted
pub tally_step : {N M : ℕ → Type 0} {limit number last count last' count' : ℕ} → 1 ≤ number → number < limit → ((v : ℕ) → N v → M v) → ((v : ℕ) → M v → N v ⊎ ((v ≡ number) × (last' ≡ number))) → ((v : ℕ) → N v → v ≤ number)
    → ((count' ≡ count) × (last' ≡ last)) ⊎ (M number × Once number last count last' count') → Tally N limit last count → Tally M limit last' count'
tally_step {N} {M} {limit} {number} {last} {count} {last'} {count'} from_1 below to from past e t = ⊎_elim same (λ z. noted z.0 z.1 (ℕ_discrete last number)) e
  where
    same : (count' ≡ count) × (last' ≡ last) → Tally M limit last' count'
    same z = rw (z.0, z.1) (tally_same (λ v. ((λ m. ⊎_elim (λ n. n) (λ k. had v k.0 (sym z.1 ∙ k.1)) (from v m)), to v)) t)
      where
        had : (v : ℕ) → v ≡ number → last ≡ number → N v
        had v k l = let n : N last = t.last_came (omega arith) in let q : last ≡ v = l ∙ sym k in rw q at n

    iff : M number → (v : ℕ) → M v ↔ And N number v
    iff m v = ((λ k. ⊎_elim inl (λ z. inr z.0) (from v k)), ⊎_elim (to v) (λ k. rw k m))

    noted : M number → Once number last count last' count' → Dec (last ≡ number) → Tally M limit last' count'
    noted m o (yes k) = rw (o.now_last ∙ sym k, o.again k) (tally_again (omega arith) (λ v. subst (λ (z : ℕ). M v ↔ And N z v) (sym k) (iff m v)) t)
    noted m o (no k) = rw (o.now_last, o.more k) (tally_more number (low (dec_le 1 last)) k below (iff m) t)
      where
        low : Dec (1 ≤ last) → last ≤ number
        low (yes l) = past last (t.last_came l)
        low (no l) = omega arith

module _ {fleet numbers : List ℕ} (f : IsFleet fleet) (nb : Numbers fleet numbers) where
  pub is_numbered : VehiclesNumbered fleet numbers
  is_numbered = nb.are

  pub number_in : (w : ℕ) → w < length fleet → (1 ≤ get_or numbers w 0) × (get_or numbers w 0 < suc (length (vehicles fleet)))
  number_in w h = let z = is_numbered.covers w h in let y = z.1 in (omega (arith, z.2), omega (arith, z.2))

-- THE TEST: of the pairs of children of d, those pass at a level that are of the set and of which d has more than the branch's node there.
pub record Tested (S : ℕ → Type 0) (P : (level d x : ℕ) → Type 0) (p fleet : List ℕ) : Type 0 where
  pub test : {x b level d kid : ℕ} → OnBranch p level b → NewChild p x b → IsChild fleet d (x % 1000) kid → P level d x ↔ (S x × (children p b (x % 1000) < children fleet d (x % 1000)))

-- THE PAIRS OF A PLACE w of the pattern's last node: those of the set that have a child to spare there
module _ {S : ℕ → Type 0} {P : (level d x : ℕ) → Type 0} {p fleet : List ℕ} {w : ℕ} (t : IsTree p) (f : IsFleet fleet) (k : Tested S P p fleet) (at : LastPlace p fleet w) where
  pub pair_sound : {x : ℕ} → PlacePair P fleet (depthAt p (last_of p)) w x → (b : ℕ) × NewChild p x b × S x × Spare p x b fleet w
  pair_sound {x} z =
      let y = branch_at t z.level z.no_deeper in
      found y.0 y.1
    where
      shift : depthAt p (last_of p) ≤ depthAt fleet w
      shift = depth_shift t at

      pair : IsPair (get_or fleet z.kid 0)
      pair = fleet_pair f z.kid z.is_kid.inside

      deep : x / 1000 ≡ suc z.level
      deep = omega (arith, z.pair, z.is_kid.one_deeper, up_depth z.up, z.no_deeper, shift)

      found : (b : ℕ) → OnBranch p z.level b → (b : ℕ) × NewChild p x b × S x × Spare p x b fleet w
      found b o =
          let e : NewChild p x b = new_child_at p x z.level b t (record { depth_to_15 = omega (arith, pair.depth_to_15, z.pair); label_from_1 = omega (arith, pair.label_from_1, z.pair) }) o deep in
          let y = (k.test o e (z.is_kid, omega (arith, z.pair))).0 z.passes in
          (b, e, y.0, record { d = z.d; last_place = at; up = rw o.depth z.up; more = y.1 })

  pub pair_all : {x b : ℕ} → NewChild p x b → S x → Spare p x b fleet w → (z : PlacePair P fleet (depthAt p (last_of p)) w x) × (z.level ≡ depthAt p b)
  pair_all {x} {b} e m s =
      let c = counted_child fleet s.d (x % 1000) (omega (arith, s.more)) in
      let there = (pair_below e at s.up c.1.0).0 c.1.1 in (
        record {
          level = depthAt p b;
          no_deeper = e.on_branch.no_deeper;
          d = s.d;
          up = s.up;
          kid = c.0;
          is_kid = c.1.0;
          pair = omega (arith, there);
          passes = (k.test e.on_branch e c.1).1 (m, s.more);
        },
        refl,
      )

-- GATHERING: the first i places are done
pub record GatheredTo (S : ℕ → Type 0) (P : (level d x : ℕ) → Type 0) (p fleet parents numbers sizes places counts₀ last₀ seen counts last : List ℕ) (i : ℕ) : Type 0 where
  pub is_tree : IsTree p
  pub indexed : Indexed fleet parents numbers sizes
  pub listed : Places p fleet places
  pub tested : Tested S P p fleet
  pub counts_from : CountsFrom S p fleet numbers places i counts last
  pub seen_from : (k : ℕ) → k ≤ depthAt p (last_of p) → (get_or seen k 0 ≡ most_nodes) ⊎ ((m : ℕ) × (m < i) × Up fleet (get_or seen k 0) (depthAt p (last_of p) - k) (get_or places m 0))
  pub room_counts : top_of p ≤ length counts₀
  pub room_last : top_of p ≤ length last₀
  pub as_long : length counts ≡ length counts₀
  pub last_as_long : length last ≡ length last₀
  pub all_seen : length seen ≡ 16
  pub within : i ≤ length places

fill_at : (v n k : ℕ) → k < n → ◌≡◌ {A = ℕ} (get_or (replicate n v) k 0) v
fill_at v zero k h = absurd (omega arith)
fill_at v (suc n) zero h = refl
fill_at v (suc n) (suc k) h = fill_at v n k (omega arith)

pub last_depth : {p : List ℕ} → IsTree p → (1 ≤ length p) × (depthAt p (last_of p) ≤ 15)
last_depth {p} t = (t.has_root, (t.pairs (last_of p) (last_inside p t)).depth_to_15)

pub gather_start : {S : ℕ → Type 0} {P : (level d x : ℕ) → Type 0} {p fleet parents numbers sizes places counts last : List ℕ} → GatherFrom p fleet parents numbers sizes places counts last → Tested S P p fleet
    → GatheredTo S P p fleet parents numbers sizes places counts last (replicate 16 most_nodes) counts last 0
gather_start {S} {P} {p} {fleet} {numbers = numbers} {places = places} {counts = counts} {last = last} i k = record {
  is_tree = i.is_tree;
  indexed = i.indexed;
  listed = i.listed;
  tested = k;
  counts_from = counts_start S p fleet numbers places counts last i.none_counted i.none_noted;
  seen_from = λ m q. inl (fill_at most_nodes 16 m (omega (arith, (last_depth i.is_tree).1)));
  room_counts = i.room_counts;
  room_last = i.room_last;
  as_long = refl;
  last_as_long = refl;
  all_seen = length-replicate {A = ℕ} 16 most_nodes;
  within = omega arith;
}

module _ {S : ℕ → Type 0} {P : (level d x : ℕ) → Type 0} {p fleet parents numbers sizes places counts₀ last₀ seen counts last : List ℕ} {i : ℕ} (w : GatheredTo S P p fleet parents numbers sizes places counts₀ last₀ seen counts last i) where
  tree : IsTree p
  tree = w.is_tree

  is_fleet : IsFleet fleet
  is_fleet = w.indexed.is_fleet

  nb : VehiclesNumbered fleet numbers
  nb = is_numbered is_fleet w.indexed.has_numbers

  gathered_few : {x b : ℕ} → NewChild p x b → S x → get_or counts x 0 ≤ most_trees
  gathered_few {x} {b} e m = omega (arith, tally_few (w.counts_from.tallied x b e m), is_fleet.trees)

  pub places_few : length places ≤ most_nodes
  places_few = omega (arith, few_places fleet (depthAt p (last_of p)) (length fleet) places w.listed.in_order (λ m q. place_inside tree (w.listed.each m q)), is_fleet.nodes)

  module _ (h : i < length places) where
    at : LastPlace p fleet (get_or places i 0)
    at = w.listed.each i h

    pub next_inside : get_or places i 0 < length fleet
    next_inside = place_inside tree at

    sound : {x : ℕ} → PlacePair P fleet (depthAt p (last_of p)) (get_or places i 0) x → (b : ℕ) × NewChild p x b × S x × Spare p x b fleet (get_or places i 0)
    sound z = pair_sound tree is_fleet w.tested at z

    pub next_input : PlaceToNote P fleet parents sizes (get_or places i 0) (depthAt p (last_of p)) (get_or numbers (get_or places i 0) 0) seen counts last
    next_input = record {
      is_fleet = is_fleet;
      has_parents = w.indexed.has_parents;
      has_sizes = w.indexed.has_sizes;
      inside = next_inside;
      no_deeper = depth_shift tree at;
      all_seen = w.all_seen;
      room = record {
        in_counts = λ x s. omega (arith, below_top (sound s).1, w.room_counts, w.as_long);
        in_last = λ x s. omega (arith, below_top (sound s).1, w.room_last, w.last_as_long);
        few = λ x s _. let z = sound s in gathered_few z.1 z.2;
      };
    }

    pub gather_next : {seen' counts' last' : List ℕ} → PlaceNoted P fleet (get_or places i 0) (depthAt p (last_of p)) (get_or numbers (get_or places i 0) 0) seen counts last seen' counts' last'
        → GatheredTo S P p fleet parents numbers sizes places counts₀ last₀ seen' counts' last' (i + 1)
    gather_next {seen'} {counts'} {last'} n = rw (add-one i) (record {
      is_tree = w.is_tree;
      indexed = w.indexed;
      listed = w.listed;
      tested = w.tested;
      counts_from = record { tallied = tallied; others = others };
      seen_from = λ k q. now k q (n.now_seen k q);
      room_counts = w.room_counts;
      room_last = w.room_last;
      as_long = n.some.all_counts ∙ w.as_long;
      last_as_long = n.some.all_last ∙ w.last_as_long;
      all_seen = n.all_seen;
      within = h;
    })
      where
        number : ℕ
        number = get_or numbers (get_or places i 0) 0

        in_fleet : (m : ℕ) → m < length places → get_or places m 0 < length fleet
        in_fleet m q = place_inside tree (w.listed.each m q)

        now : (k : ℕ) → k ≤ depthAt p (last_of p) → (get_or seen' k 0 ≡ get_or seen k 0) ⊎ Up fleet (get_or seen' k 0) (depthAt p (last_of p) - k) (get_or places i 0)
            → (get_or seen' k 0 ≡ most_nodes) ⊎ ((m : ℕ) × (m < suc i) × Up fleet (get_or seen' k 0) (depthAt p (last_of p) - k) (get_or places m 0))
        now k q (inl e) = ⊎_elim (λ z. inl (e ∙ z)) (λ z. let b : z.0 < i = z.1 in inr (z.0, omega arith, rw e z.2)) (w.seen_from k q)
        now k q (inr u) = inr (i, omega arith, u)

        -- what a pair's number can come from
        old : {x b v : ℕ} → NotedFrom p x b fleet numbers places i v → NotedFrom p x b fleet numbers places (suc i) v
        old z = record { index = z.index; among = omega (arith, z.among); spare = z.spare; in_vehicle = z.in_vehicle }

        here : {x b : ℕ} → Spare p x b fleet (get_or places i 0) → NotedFrom p x b fleet numbers places (suc i) number
        here s = record { index = i; among = omega arith; spare = s; in_vehicle = refl }

        new : {x b : ℕ} → NewChild p x b → S x → (v : ℕ) → NotedFrom p x b fleet numbers places (suc i) v → NotedFrom p x b fleet numbers places i v ⊎ ((v ≡ number) × (get_or last' x 0 ≡ number))
        new {x} {b} e m v z = go (ℕ_discrete z.index i)
          where
            go : Dec (z.index ≡ i) → NotedFrom p x b fleet numbers places i v ⊎ ((v ≡ number) × (get_or last' x 0 ≡ number))
            go (no k) = inl (record { index = z.index; among = omega (arith, z.among); spare = z.spare; in_vehicle = z.in_vehicle })
            go (yes k) =
                let s : Spare p x b fleet (get_or places i 0) = rw k at z.spare in
                let is_v : number ≡ v = ap (λ (j : ℕ). get_or numbers (get_or places j 0) 0) (sym k) ∙ z.in_vehicle in
                let q = pair_all tree is_fleet w.tested at e m s in
                ⊎_elim (λ y. inr (sym is_v, y)) (λ y. inl (rw is_v at (seen_before s y.0 (omega (arith, y.1, q.1)) y.2 y.3))) (n.all x q.0)
              where
                seen_before : Spare p x b fleet (get_or places i 0) → (k : ℕ) → depthAt p b ≤ k → k ≤ depthAt p (last_of p) → Up fleet (get_or seen k 0) (depthAt p (last_of p) - k) (get_or places i 0) → NotedFrom p x b fleet numbers places i number
                seen_before s k a c u = ⊎_elim (λ y. absurd (omega (arith, y, up_inside u next_inside, is_fleet.nodes))) (λ y. noted_seen nb tree w.listed i y.0 (get_or seen k 0) (depthAt p (last_of p) - k) y.1 h (omega arith) y.2 u s) (w.seen_from k c)

        past : {x b : ℕ} (v : ℕ) → NotedFrom p x b fleet numbers places i v → v ≤ number
        past v z = omega (arith, z.in_vehicle, numbers_rise nb (w.listed.in_order z.index i z.among h) (in_fleet z.index (omega (arith, z.among))) next_inside)

        tallied : (x b : ℕ) → NewChild p x b → S x → Tally (NotedFrom p x b fleet numbers places (suc i)) (suc (length (vehicles fleet))) (get_or last' x 0) (get_or counts' x 0)
        tallied x b e m =
            let k = number_in is_fleet w.indexed.has_numbers (get_or places i 0) next_inside in
            tally_step k.0 k.1 (λ v. old) (new e m) past (⊎_elim inl (λ z. inr (noted z.0, z.1)) (n.some.each x)) (w.counts_from.tallied x b e m)
          where
            noted : PlacePair P fleet (depthAt p (last_of p)) (get_or places i 0) x → NotedFrom p x b fleet numbers places (suc i) number
            noted z = let y = sound z in let same : y.0 ≡ b = parent_unique y.1 e in here (rw same at y.3)

        others : (x : ℕ) → x < top_of p → (get_or counts' x 0 ≡ 0) ⊎ ((b : ℕ) × NewChild p x b × S x)
        others x l = ⊎_elim (λ z. ⊎_elim (λ y. inl (z.0 ∙ y)) inr (w.counts_from.others x l)) (λ z. let y = sound z.0 in inr (y.0, y.1, y.2)) (n.some.each x)
