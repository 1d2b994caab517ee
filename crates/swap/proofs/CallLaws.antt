-- LAWS. One for each way out of the functions that check the rules of a swap.
use mathlib.Core.Path.{◌≡◌, refl, sym, ap, ◌∙◌}
use mathlib.Core.Logic.{◌≢◌}
use mathlib.Core.Bool.{Bool, true, false, not}
use mathlib.Core.List.{List, [], ◌∷◌}
use Prim.Native.Nat.{ℕ, suc, ◌+◌, ◌-◌, ◌≤◌, ◌<◌}
use native.Mathlib.Omega.{arith}
use native.Mathlib.Decide.{dec_le}
use lib.ListN.{length, take}
use lib.Seq.{length-take-le}
use Rattle.terms.specs.Fleet.{IsFleet, IsVehicle, vehicles, most_nodes, most_nodes_of_a_tree}
use Rattle.terms.specs.Refusal.{refusal, FirstBroken, this, later, none, also}
use Rattle.terms.specs.Tells.{Tells, decided}
use Rattle.terms.proofs.Decide.{within?}
use Rattle.terms.proofs.DecidedLaws.{said_yes, said_no, denied, not_denied}
use Rattle.terms.proofs.FleetLaws.{fleet?, vehicle?}
use Rattle.terms.proofs.RefusalLaws.{first_broken_refusal, all_kept_refusal}
use Rattle.fleet.specs.Rules.{vehicle_rule, output_rule}
use Rattle.fleet.specs.declared.Answer.{Answer}
use Rattle.fleet.specs.declared.Answer.TheVariants.{Done, Refused}
use Rattle.fleet.proofs.AnswerLaws.{refused_with, done_with}
use Rattle.fleet.proofs.TellsLaws.{broken, kept}
use Rattle.vehicles.specs.Vehicle.{TreeStart, TreeEnd, stretch}
use Rattle.vehicles.proofs.StartLaws.{start_within, part_of}
use Rattle.register.specs.Register.{IsRegister, register?, register_nodes, register_holders}
use Rattle.register.specs.Trees.{AddInput, TakeInput, Added, Taken}
use Rattle.moving.specs.Moving.{ReplaceInput, spliced}
use Rattle.swap.specs.Swap.{Swap, RightlyLent, fleet_of, new_fleet, past_rule, swap_rules, swap_answer, buffer_after, nodes_after, holders_after}
use Rattle.swap.specs.Claims.{RightlyLentTo, Named}
use Rattle.swap.proofs.NewFleet as new
use Rattle.swap.proofs.RegisterLaws as r

-- the first pairs of the buffer, as the code lends them
pub front_length : (n : ℕ) (l : List ℕ) → n ≤ length l → n ≡ length (take n l)
front_length n l h = sym (length-take-le n l h)

-- RIGHTLY_LENT
module _ (buffer : List ℕ) (used : ℕ) (tree nodes holders : List ℕ) where
  abbrev Lent : Type 0
  Lent = RightlyLent buffer used tree nodes holders

  pub past_buffer : length buffer < used → ¬ Lent
  past_buffer h l = omega (arith, l.in_buffer)

  module _ (b : Bool) (e : b ≡ decided (fleet? (take used buffer))) where
    pub no_fleet : not b ≡ true → ¬ Lent
    no_fleet t l = said_no (fleet? (take used buffer)) (denied b t ∙ e) l.is_fleet

    pub a_fleet : not b ≡ false → IsFleet (take used buffer)
    a_fleet t = said_yes (fleet? (take used buffer)) (not_denied b t ∙ e)

    module _ (a : Bool) (f : a ≡ decided (vehicle? tree)) where
      pub no_tree : not a ≡ true → ¬ Lent
      no_tree t l = said_no (vehicle? tree) (denied a t ∙ f) l.is_vehicle

      module _ (d : Bool) (g : d ≡ decided (register? (take used buffer) nodes holders)) where
        pub other_register : not d ≡ true → ¬ Lent
        other_register t l = said_no (register? (take used buffer) nodes holders) (denied d t ∙ g) l.is_register

        pub all_right : used ≤ length buffer → not b ≡ false → not a ≡ false → not d ≡ false → Lent
        all_right h t u v = record {
          in_buffer = h;
          is_fleet = a_fleet t;
          is_vehicle = said_yes (vehicle? tree) (not_denied a u ∙ f);
          is_register = said_yes (register? (take used buffer) nodes holders) (not_denied d v ∙ g);
        }

-- SWAP
module _ (s : Swap) where
  abbrev pub Answers : Answer → (buffer nodes holders : List ℕ) → Type 0
  Answers a buffer nodes holders = (a ≡ swap_answer s) × ((buffer ≡ buffer_after s) × ((nodes ≡ nodes_after s) × (holders ≡ holders_after s)))

  refused : (k : ℕ) → FirstBroken (suc k) (swap_rules s) → Answers (Refused (suc k)) s.buffer s.nodes s.holders
  unfolding swap_answer buffer_after nodes_after holders_after
  refused k b =
      let e = first_broken_refusal b in
      let number = refusal (swap_rules s) in
      let p = refused_with number k (length (new_fleet s)) (new_fleet s) s.buffer e in
      (p.0, (p.1, ((refused_with number k 0 (register_nodes (new_fleet s)) s.nodes e).1, (refused_with number k 0 (register_holders (new_fleet s)) s.holders e).1)))

  -- the rules of 10 before 16: the first that is broken
  pub not_right : ¬ RightlyLentTo s → FirstBroken 10 (swap_rules s)
  unfolding swap_rules
  not_right n = go (dec_le s.used (length s.buffer)) (fleet? (fleet_of s)) (vehicle? s.tree) (register? (fleet_of s) s.nodes s.holders)
    where
      go : Dec (s.used ≤ length s.buffer) → Dec (IsFleet (fleet_of s)) → Dec (IsVehicle s.tree) → Dec (IsRegister (fleet_of s) s.nodes s.holders)
          → FirstBroken 10 (swap_rules s)
      go (no a) _ _ _ = this a refl
      go (yes a) (no b) _ _ = later a (this b refl)
      go (yes a) (yes b) (no c) _ = later a (later b (this c refl))
      go (yes a) (yes b) (yes c) (no d) = later a (later b (later c (this d refl)))
      go (yes a) (yes b) (yes c) (yes d) = absurd (n (record { in_buffer = a; is_fleet = b; is_vehicle = c; is_register = d }))

  pub after_right : (n : ℕ) → RightlyLentTo s → FirstBroken n (vehicle_rule (fleet_of s) s.vehicle ∷ past_rule s ∷ output_rule (length (new_fleet s)) s.buffer ∷ []) → FirstBroken n (swap_rules s)
  unfolding swap_rules
  after_right n k b = later k.in_buffer (later k.is_fleet (later k.is_vehicle (later k.is_register b)))

  module _ (b : Bool) (t : Tells b (RightlyLentTo s)) where
    pub swap_not_right : not b ≡ true → Answers (Refused 10) s.buffer s.nodes s.holders
    swap_not_right h = refused 9 (not_right (broken b t h))

    right : not b ≡ false → RightlyLentTo s
    right h = kept b t h

    pub in_buffer : not b ≡ false → s.used ≤ length s.buffer
    in_buffer h = (right h).in_buffer

    module _ (h : not b ≡ false) (from : ℕ) (start : TreeStart (fleet_of s) s.vehicle from) where
      size : length (fleet_of s) ≡ s.used
      size = length-take-le s.used s.buffer (right h).in_buffer

      pub swap_not_named : from ≡ s.used → Answers (Refused 16) s.buffer s.nodes s.holders
      swap_not_named e = refused 15 (after_right 16 (right h) (this (λ k. absurd (omega (arith, size, start_within (fleet_of s) s.vehicle from start k))) refl))

      named : from ≢ s.used → Named s
      named n = go (within? 1 s.vehicle (length (vehicles (fleet_of s))))
        where
          go : Dec (Named s) → Named s
          go (yes k) = k
          go (no k) = absurd (n (start.of_none k ∙ size))

      module _ (n : from ≢ s.used) (to : ℕ) (end : TreeEnd (fleet_of s) from to) where
        pub part : (from ≤ to) × (to ≤ length (fleet_of s))
        part = part_of (fleet_of s) s.vehicle from to start end

        pub few_nodes : (to ≤ s.used) × ((s.used ≤ most_nodes) × (length s.tree ≤ most_nodes_of_a_tree))
        few_nodes = (omega (arith, part.1, size), (omega (arith, (right h).is_fleet.nodes, size), (right h).is_vehicle.nodes))

        total : length (new_fleet s) ≡ from + length s.tree + (s.used - to)
        total = new.new_size (fleet_of s) s.vehicle from to start end (named n) s.tree ∙ ap (λ (m : ℕ). from + length s.tree + (m - to)) size

        pub swap_past : most_nodes < from + length s.tree + (s.used - to) → Answers (Refused 10) s.buffer s.nodes s.holders
        swap_past k = refused 9 (after_right 10 (right h) (later (named n) (this (λ m. absurd (omega (arith, total))) refl)))

        module _ (few : from + length s.tree + (s.used - to) ≤ most_nodes) where
          pub swap_short : length s.buffer < from + length s.tree + (s.used - to) → Answers (Refused 17) s.buffer s.nodes s.holders
          swap_short k = refused 16 (after_right 17 (right h) (later (named n) (later (omega (arith, total)) (this (λ m. absurd (omega (arith, total))) refl))))

          pub swap_take : TakeInput (stretch (fleet_of s) from to) s.vehicle s.nodes s.holders
          swap_take = r.take_input (fleet_of s) s.vehicle from to start end (named n) (right h).is_fleet s.tree (right h).is_vehicle s.nodes s.holders (right h).is_register

          module _ {nodes' holders' : List ℕ} (taken : Taken (stretch (fleet_of s) from to) s.vehicle s.nodes s.holders nodes' holders') where
            pub swap_add : AddInput s.tree s.vehicle nodes' holders'
            swap_add = r.add_input (fleet_of s) s.vehicle from to start end (named n) (right h).is_fleet s.tree (right h).is_vehicle s.nodes s.holders (right h).is_register (omega (arith, total)) taken

            module _ (room : from + length s.tree + (s.used - to) ≤ length s.buffer) where
              pub swap_replace : ReplaceInput s.buffer s.used from to s.tree
              swap_replace = record { forward = part.0; within = few_nodes.0; here = (right h).in_buffer; there = room }

              pub swap_done : {nodes'' holders'' buffer' : List ℕ} → Added s.tree s.vehicle nodes' holders' nodes'' holders'' → buffer' ≡ spliced s.buffer s.used from to s.tree
                  → Answers (Done (from + length s.tree + (s.used - to))) buffer' nodes'' holders''
              unfolding swap_answer buffer_after nodes_after holders_after swap_rules
              swap_done {nodes''} {holders''} {buffer'} added spliced =
                  let number = refusal (swap_rules s) in
                  let z : number ≡ 0 = all_kept_refusal (also (right h).in_buffer (also (right h).is_fleet (also (right h).is_vehicle (also (right h).is_register
                  (also (named n) (also (omega (arith, total)) (also (omega (arith, total)) none))))))) in
                  let p = done_with number (length (new_fleet s)) (new_fleet s) s.buffer buffer' z
                  (spliced ∙ new.buffer_new s.buffer s.used s.vehicle from to s.tree (right h).in_buffer start end (named n)) in
                  let nodes_are = r.nodes_new (fleet_of s) s.vehicle from to start end (named n) (right h).is_fleet s.tree (right h).is_vehicle s.nodes s.holders (right h).is_register (omega (arith, total)) taken added in
                  let holders_are = r.holders_new (fleet_of s) s.vehicle from to start end (named n) (right h).is_fleet s.tree (right h).is_vehicle s.nodes s.holders (right h).is_register (omega (arith, total)) taken added in (
                    ap Done (sym total) ∙ p.0,
                    (
                      p.1,
                      (
                        (done_with number 0 (register_nodes (new_fleet s)) s.nodes nodes'' z nodes_are).1,
                        (done_with number 0 (register_holders (new_fleet s)) s.holders holders'' z holders_are).1,
                      ),
                    ),
                  )
