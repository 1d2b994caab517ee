-- LAWS. A fleet checked pair by pair: one law for each way out of is_fleet, and one for the loop.
use mathlib.Core.Logic.{◌≢◌}
use mathlib.Core.Path.{◌≡◌, refl, sym, ap, ◌∙◌}
use mathlib.Core.Bool.{true, false}
use mathlib.Core.List.{List, [], ◌∷◌, ◌++◌}
use Prim.Native.Nat.{ℕ, suc, ◌+◌, ◌/◌, ◌%◌, ◌≤◌, ◌<◌}
use native.Mathlib.Omega.{arith}
use native.Mathlib.Numerals.{add-one}
use lib.ListN.{length, get_or, set, take, drop, take-append-drop}
use lib.Seq.{take-suc, take_all, length-take-le}
use Rattle.terms.specs.Fleet.{vehicles, family, IsFleet}
use Rattle.terms.specs.Refusal.{refusal}
use Rattle.terms.specs.Tells.{decided}
use Rattle.terms.proofs.DecidedLaws.{says_yes, says_no}
use Rattle.terms.proofs.FleetLaws.{fleet?}
use Rattle.fleet.specs.NodeRules.{node_rules}
use Rattle.fleet.specs.Reader.{ReaderOf}
use Rattle.fleet.specs.declared.reader.Reader.{Reader}
use Rattle.fleet.proofs.NodeLaws.{node_zero, zero_node}
use Rattle.fleet.proofs.ReaderSteps.{Goes, goes_on}
use Rattle.fleet.proofs.FleetGrowth.{Begun, nothing_yet, a_fleet, fleet_grows, fleet_grew, fleet_beginning, pair_whole}

-- the first i pairs are nothing or a fleet, and what is kept is theirs
pub record Checked (pairs : List ℕ) (i : ℕ) (reader : Reader) (families : List ℕ) : Type 0 where
  pub begun : Begun (take i pairs)
  pub stands : ReaderOf (take i pairs) reader families

pub checked_first : (pairs : List ℕ) (reader : Reader) (families : List ℕ) → ReaderOf [] reader families → Checked pairs 0 reader families
checked_first pairs reader families s = record { begun = nothing_yet refl; stands = s }

pub empty_no : (s : List ℕ) → length s ≡ 0 → false ≡ decided (fleet? s)
unfolding vehicles
empty_no s e = says_no (fleet? s) (go s e)
  where
    go : (s : List ℕ) → length s ≡ 0 → ¬ IsFleet s
    go [] e f = omega (arith, f.some_tree)
    go (x ∷ s) e f = omega arith

module _ (pairs : List ℕ) (i : ℕ) (reader : Reader) (families : List ℕ) (number : ℕ) (inside : i < length pairs) (g : Checked pairs i reader families)
    (p : (before : List ℕ) → ReaderOf before reader families → number ≡ refusal (node_rules before (get_or pairs i 0 / 1000) (get_or pairs i 0 % 1000))) where
  grown : take (suc i) pairs ≡ take i pairs ++ get_or pairs i 0 ∷ []
  grown = take-suc pairs i 0 inside

  pub checked_turn : number ≡ 0 → length families ≡ 16 → (reader' : Reader) (families' : List ℕ) → Goes reader (get_or pairs i 0 / 1000) (get_or pairs i 0 % 1000) reader'
      → families' ≡ set families (get_or pairs i 0 / 1000) (family (get_or pairs i 0 % 1000)) → (length families' ≡ 16) × Checked pairs (i + 1) reader' families'
  checked_turn z wide reader' families' goes e =
      let k = goes_on _ _ goes wide e g.stands in
      let nr = zero_node (take i pairs) (get_or pairs i 0 / 1000) (get_or pairs i 0 % 1000) (sym (p (take i pairs) g.stands) ∙ z) in
      let s : ReaderOf (take i pairs ++ get_or pairs i 0 ∷ []) reader' families' = rw (pair_whole (get_or pairs i 0)) at k.1 in
      (k.0, rw (add-one i) (record { begun = rw grown (a_fleet (fleet_grows (take i pairs) (get_or pairs i 0) g.begun nr)); stands = rw grown s }))

  pub checked_no : 0 < number → false ≡ decided (fleet? pairs)
  checked_no h = says_no (fleet? pairs) (λ f. omega (arith, p (take i pairs) g.stands ∙ never f))
    where
      never : IsFleet pairs → refusal (node_rules (take i pairs) (get_or pairs i 0 / 1000) (get_or pairs i 0 % 1000)) ≡ 0
      never f =
          let whole : IsFleet (take (suc i) pairs ++ drop (suc i) pairs) = rw (take-append-drop (suc i) pairs) f in
          let long : 1 ≤ length (take (suc i) pairs) = omega (arith, length-take-le (suc i) pairs inside) in
          let part : IsFleet (take i pairs ++ get_or pairs i 0 ∷ []) = rw grown at (fleet_beginning (take (suc i) pairs) (drop (suc i) pairs) long whole) in
          node_zero (take i pairs) (get_or pairs i 0 / 1000) (get_or pairs i 0 % 1000) (fleet_grew (take i pairs) (get_or pairs i 0) part).1

pub checked_all : (pairs : List ℕ) (i : ℕ) (reader : Reader) (families : List ℕ) → length pairs ≢ 0 → length pairs ≤ i → Checked pairs i reader families → true ≡ decided (fleet? pairs)
checked_all pairs i reader families n h g = says_yes (fleet? pairs) (go (rw (take_all i pairs h) at g.begun))
  where
    go : Begun pairs → IsFleet pairs
    go (a_fleet f) = f
    go (nothing_yet e) = absurd (n (ap length e))
