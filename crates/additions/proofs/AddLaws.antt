-- LAWS. What is left over at the places, counted, tells whether a leaf more is held often enough (`note_places`).
use mathlib.Core.Path.{◌≡◌, refl}
use mathlib.Core.Logic.{inl, ⊎_elim}
use mathlib.Core.List.{List, []}
use Prim.Native.Nat.{ℕ, suc, ◌+◌, ◌≤◌, ◌<◌}
use native.Mathlib.Omega.{arith}
use native.Mathlib.Decide.{dec_lt}
use lib.ListN.{length, get_or, replicate, get_or-eq_default}
use Rattle.terms.specs.Tree.{depthAt, IsPair}
use Rattle.terms.specs.Placing.{Occurs}
use Rattle.terms.specs.Fleet.{vehicles, most_nodes}
use Rattle.occurrence.specs.Support.{whole_support}
use Rattle.rightmost.specs.Ends.{last_of, NewChild}
use Rattle.rightmost.specs.Counts.{top_of}
use Rattle.rightmost.specs.Vehicles.{VehiclesNumbered, NotedFrom}
use Rattle.rightmost.specs.PlaceList.{Tally}
use Rattle.rightmost.proofs.LongerLaws.{longer}
use Rattle.rightmost.proofs.TallyLaws.{tally_at_most}
use Rattle.rightmost.proofs.TestLaws.{noted_exactly}
use Rattle.rightmost.proofs.GatherLaws.{gathered_support}
use Rattle.noting.specs.Noting.{PlaceNoted}
use Rattle.noting.proofs.GatherLaws.{Tested, GatheredTo, gather_start, next_input, gather_next}
use Rattle.leftover.specs.Leftover.{Leftover, LeftoversToNote, Most}
use Rattle.additions.specs.Additions.{LeafReaches, Own, LeavesToNote}

-- what is left over is to spare
own_tested : {p fleet own : List ℕ} → Own p own → Tested IsPair (λ level. Leftover fleet own) p fleet
own_tested {p} {fleet} {own} k = record { test = λ {x} {b} o e c. ((λ z. (e.is_pair, rw (k.counted x b e) at z.more)), (λ z. record { more = rw (k.counted x b e) z.1 })) }

-- the first i places are done
pub record AddedTo (p fleet parents numbers sizes places own counts₀ last₀ seen counts last : List ℕ) (need most i : ℕ) : Type 0 where
  pub gathered : GatheredTo IsPair (λ level. Leftover fleet own) p fleet parents numbers sizes places counts₀ last₀ seen counts last i
  pub is_own : Own p own
  pub largest : Most counts most
  pub exact : length counts₀ ≡ top_of p
  pub from_1 : 1 ≤ need
  pub not_yet : most < need

pub added_start : {p fleet parents numbers sizes places own counts last : List ℕ} {need : ℕ} → LeavesToNote p fleet parents numbers sizes places own counts last need
    → AddedTo p fleet parents numbers sizes places own counts last (replicate 16 most_nodes) counts last need 0 0
added_start {p} {counts = counts} i = record {
  gathered = gather_start i.from (own_tested i.is_own);
  is_own = i.is_own;
  largest = record { reached = inl refl; none_more = λ x. none x (dec_lt x (length counts)) };
  exact = i.exact;
  from_1 = i.from_1;
  not_yet = i.from_1;
}
  where
    none : (x : ℕ) → Dec (x < length counts) → get_or counts x 0 ≤ 0
    none x (yes h) = omega (arith, i.from.none_counted x (omega (arith, i.exact)))
    none x (no h) = let q : get_or counts x 0 ≡ 0 = get_or-eq_default counts 0 (omega arith) in omega arith

module _ {p fleet parents numbers sizes places own counts₀ last₀ seen counts last : List ℕ} {need most i : ℕ} (w : AddedTo p fleet parents numbers sizes places own counts₀ last₀ seen counts last need most i) where
  pub added_input : i < length places → LeftoversToNote fleet parents sizes own (get_or places i 0) (depthAt p (last_of p)) (get_or numbers (get_or places i 0) 0) seen counts last × Most counts most
  added_input h = (record { at = next_input w.gathered h; room = w.is_own.room; room_last = omega (arith, w.gathered.room_last, w.gathered.last_as_long) }, w.largest)

  -- none was counted often enough at any place
  pub added_none : length places ≤ i → ¬ LeafReaches fleet need p
  added_none h r =
      let g = w.gathered in
      let all : i ≡ length places = omega (arith, g.within) in
      let t : Tally (NotedFrom p r.pair r.node fleet numbers places (length places)) (suc (length (vehicles fleet))) (get_or last r.pair 0) (get_or counts r.pair 0) = rw all at (g.counts_from.tallied r.pair r.node r.new_child r.new_child.is_pair) in
      omega (arith, gathered_support g.indexed.has_numbers.are r.new_child g.listed t, w.largest.none_more r.pair, w.not_yet, r.enough)

  module _ (h : i < length places) {seen' counts' last' : List ℕ} {most' : ℕ}
      (n : PlaceNoted (λ level. Leftover fleet own) fleet (get_or places i 0) (depthAt p (last_of p)) (get_or numbers (get_or places i 0) 0) seen counts last seen' counts' last') (m : Most counts' most') where
    next : GatheredTo IsPair (λ level. Leftover fleet own) p fleet parents numbers sizes places counts₀ last₀ seen' counts' last' (i + 1)
    next = gather_next w.gathered h n

    pub added_next : most' < need → AddedTo p fleet parents numbers sizes places own counts₀ last₀ seen' counts' last' need most' (i + 1)
    added_next l = record { gathered = next; is_own = w.is_own; largest = m; exact = w.exact; from_1 = w.from_1; not_yet = l }

    -- a pair was
    pub added_reached : need ≤ most' → LeafReaches fleet need p
    added_reached l = ⊎_elim (λ z. absurd (omega (arith, w.from_1))) (λ z. there z.0 z.1) m.reached
      where
        inside : (x : ℕ) → get_or counts' x 0 ≡ most' → Dec (x < length counts') → x < top_of p
        inside x e (yes q) = omega (arith, next.as_long, w.exact)
        inside x e (no q) = let z : get_or counts' x 0 ≡ 0 = get_or-eq_default counts' 0 (omega arith) in absurd (omega (arith, w.from_1))

        there : (x : ℕ) → get_or counts' x 0 ≡ most' → LeafReaches fleet need p
        there x e = ⊎_elim (λ z. absurd (omega (arith, w.from_1))) (λ z. found z.0 z.1 z.2) (next.counts_from.others x (inside x e (dec_lt x (length counts'))))
          where
            found : (b : ℕ) → NewChild p x b → IsPair x → LeafReaches fleet need p
            found b k s = record { pair = x; node = b; new_child = k; enough = omega (arith, l, e, few) }
              where
                nb : VehiclesNumbered fleet numbers
                nb = w.gathered.indexed.has_numbers.are

                held_there : (v : ℕ) → v < length (vehicles fleet) → NotedFrom p x b fleet numbers places (i + 1) (suc v) → Occurs (longer p x) (get_or (vehicles fleet) v [])
                held_there v q y = (noted_exactly k (nb.each v q)).1 (record { place = get_or places y.index 0; spare = y.spare; in_vehicle = y.in_vehicle })

                few : get_or counts' x 0 ≤ whole_support fleet (longer p x)
                few = tally_at_most fleet (longer p x) held_there (next.counts_from.tallied x b k s)
