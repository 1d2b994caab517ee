-- LAWS. The labels counted over the nodes of the fleet.
use mathlib.Core.Path.{◌≡◌, refl, sym, ap, ◌∙◌}
use mathlib.Core.Logic.{◌⊎◌, inl, inr, ⊎_elim}
use mathlib.Core.List.{List, [], ◌∷◌}
use Prim.Native.Nat.{ℕ, suc, ◌+◌, ◌%◌, ◌≤◌, ◌<◌}
use native.Mathlib.Omega.{arith}
use native.Mathlib.Decide.{ℕ_discrete}
use lib.ListN.{length, get_or, replicate, length-replicate}
use Rattle.terms.specs.Tree.{label_at, IsTree}
use Rattle.terms.specs.Fleet.{vehicles, IsFleet, most_trees}
use Rattle.occurrence.specs.Support.{whole_support}
use Rattle.rightmost.specs.PlaceList.{HowMany, none, one_more, not_this, Tally}
use Rattle.rightmost.specs.Vehicles.{VehiclesNumbered}
use Rattle.rightmost.specs.Counts.{top_of}
use Rattle.rightmost.proofs.TallyLaws.{tally_none, tally_few, tally_support}
use Rattle.rightmost.proofs.TestLaws.{label_exactly}
use Rattle.index.proofs.IndexLaws.{fleet_pair}
use Rattle.index.specs.Index.{Numbers}
use Rattle.noting.specs.Noting.{Room, AllNoted}
use Rattle.counts.specs.Gathering.{Gathered}
use Rattle.noting.proofs.GatherLaws.{is_numbered, number_in, tally_step}
use Rattle.counts.proofs.CountLaws.{zeros_at}
use Rattle.labels.proofs.OneNode.{labels_gathered}

-- where nothing comes nothing is counted
none_many : {N : ℕ → Type 0} {n c : ℕ} → ((v : ℕ) → ¬ N v) → HowMany N n c → c ≡ 0
none_many f none = refl
none_many f (one_more {n = n} h r) = absurd (f n h)
none_many f (not_this h r) = none_many f r

-- COUNTED (`from_nodes`): the first i nodes are done
abbrev Came : (fleet numbers : List ℕ) (i x v : ℕ) → Type 0
Came fleet numbers i x v = (w : ℕ) × (w < i) × (label_at fleet w ≡ x) × (get_or numbers w 0 ≡ v)

pub record LabelsTo (fleet numbers counts₀ counts last : List ℕ) (i : ℕ) : Type 0 where
  pub is_fleet : IsFleet fleet
  pub numbered : Numbers fleet numbers
  pub room : top_of [] ≤ length counts₀
  pub as_long : length counts ≡ length counts₀
  pub all_last : length last ≡ 1000
  pub tallied : (x : ℕ) → x < top_of [] → Tally (Came fleet numbers i x) (suc (length (vehicles fleet))) (get_or last x 0) (get_or counts x 0)
  pub within : i ≤ length fleet

pub labels_start : {fleet numbers counts : List ℕ} → IsFleet fleet → Numbers fleet numbers → top_of [] ≤ length counts → ((x : ℕ) → x < 2000 → get_or counts x 0 ≡ 0) → LabelsTo fleet numbers counts counts (replicate 1000 0) 0
labels_start {fleet} {numbers} {counts} f nb r z = record {
  is_fleet = f;
  numbered = nb;
  room = r;
  as_long = refl;
  all_last = length-replicate {A = ℕ} 1000 0;
  tallied = λ x h. rw (z x h, zeros_at 1000 x) (tally_none (suc (length (vehicles fleet))) (λ v c. let h : c.0 < 0 = c.1 in omega arith));
  within = omega arith;
}

module _ {fleet numbers counts₀ counts last : List ℕ} {i : ℕ} (w : LabelsTo fleet numbers counts₀ counts last i) where
  labels_few : (x : ℕ) → x < top_of [] → get_or counts x 0 ≤ most_trees
  labels_few x h = omega (arith, tally_few (w.tallied x h), w.is_fleet.trees)

  pub labels_room : {number : ℕ} → Room (λ x. x ≡ get_or fleet i 0 % 1000) number counts last
  labels_room = record {
    in_counts = λ x e. omega (arith, w.room, w.as_long);
    in_last = λ x e. omega (arith, w.all_last);
    few = λ x e _. labels_few x (omega arith);
  }

  pub labels_next : {counts' last' : List ℕ} → i < length fleet → AllNoted (λ x. x ≡ get_or fleet i 0 % 1000) (get_or numbers i 0) counts last counts' last' → LabelsTo fleet numbers counts₀ counts' last' (i + 1)
  labels_next {counts'} {last'} h n = record {
    is_fleet = w.is_fleet;
    numbered = w.numbered;
    room = w.room;
    as_long = n.some.all_counts ∙ w.as_long;
    all_last = n.some.all_last ∙ w.all_last;
    tallied = λ x k. tally_step (number_in w.is_fleet w.numbered i h).0 (number_in w.is_fleet w.numbered i h).1 (to x) (from x) (past x) (⊎_elim inl (λ z. inr (here x z.0, z.1)) (n.some.each x)) (w.tallied x k);
    within = omega arith;
  }
    where
      nb : VehiclesNumbered fleet numbers
      nb = is_numbered w.is_fleet w.numbered

      to : (x v : ℕ) → Came fleet numbers i x v → Came fleet numbers (i + 1) x v
      to x v c = let k : c.0 < i = c.1 in (c.0, omega arith, c.2, c.3)

      from : (x v : ℕ) → Came fleet numbers (i + 1) x v → Came fleet numbers i x v ⊎ ((v ≡ get_or numbers i 0) × (get_or last' x 0 ≡ get_or numbers i 0))
      from x v c = go (ℕ_discrete c.0 i)
        where
          go : Dec (c.0 ≡ i) → Came fleet numbers i x v ⊎ ((v ≡ get_or numbers i 0) × (get_or last' x 0 ≡ get_or numbers i 0))
          go (yes e) = inr (sym c.3 ∙ ap (λ (m : ℕ). get_or numbers m 0) e, n.all x (sym c.2 ∙ ap (label_at fleet) e))
          go (no e) = let k : c.0 < i + 1 = c.1 in inl (c.0, omega arith, c.2, c.3)

      past : (x v : ℕ) → Came fleet numbers i x v → v ≤ get_or numbers i 0
      past x v c = let k : c.0 < i = c.1 in omega (arith, c.3, nb.rising c.0 i (omega arith) h)

      here : (x : ℕ) → x ≡ get_or fleet i 0 % 1000 → Came fleet numbers (i + 1) x (get_or numbers i 0)
      here x e = (i, omega arith, sym e, refl)

  pub labels_end : length fleet ≤ i → Gathered [] fleet counts₀ counts
  labels_end h = labels_gathered w.as_long forms (λ x b n. never x b (λ m r e. let y = e in n (omega (arith, y, (fleet_pair w.is_fleet m r).label_from_1), omega arith)))
    where
      forms : (x : ℕ) → IsTree (x ∷ []) → get_or counts x 0 ≡ whole_support fleet (x ∷ [])
      forms x t = sym (tally_support fleet (x ∷ []) (λ v l. let e = label_exactly t ((is_numbered w.is_fleet w.numbered).each v l) in ((λ o. to v (e.0 o)), (λ c. e.1 (from v c)))) (w.tallied x (omega (arith, t.root_depth))))
        where
          to : (v : ℕ) → (m : ℕ) × (m < length fleet) × (label_at fleet m ≡ x % 1000) × (get_or numbers m 0 ≡ suc v) → Came fleet numbers i x (suc v)
          to v z = let k : z.0 < length fleet = z.1 in (z.0, omega arith, omega (arith, z.2, t.root_depth), z.3)

          from : (v : ℕ) → Came fleet numbers i x (suc v) → (m : ℕ) × (m < length fleet) × (label_at fleet m ≡ x % 1000) × (get_or numbers m 0 ≡ suc v)
          from v z = let k : z.0 < i = z.1 in (z.0, omega (arith, w.within), omega (arith, z.2, t.root_depth), z.3)

      -- a number that is no label came never
      never : (x : ℕ) → x < top_of [] → ((m : ℕ) → m < length fleet → ¬ (label_at fleet m ≡ x)) → get_or counts x 0 ≡ 0
      never x b g = none_many (λ v z. let k : z.0 < i = z.1 in g z.0 (omega (arith, w.within)) z.2) (w.tallied x b).counted
