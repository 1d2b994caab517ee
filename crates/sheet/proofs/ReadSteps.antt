-- LAWS. The two loops over a sheet: what holds between two turns, and what each way out gives.
use mathlib.Core.Path.{◌≡◌, refl, sym, ap, ◌∙◌}
use mathlib.Core.Logic.{◌≢◌}
use mathlib.Core.List.{List, [], ◌∷◌, ◌++◌, append_assoc}
use Prim.Native.Nat.{ℕ, zero, suc, ◌+◌, ◌*◌, ◌/◌, ◌%◌, ◌≤◌, ◌<◌}
use native.Mathlib.Omega.{arith}
use lib.ListN.{length, get_or, set, drop, length-set, length-drop, drop_of_length-le, length-append}
use lib.Seq.{drop-cons, set_at}
use Rattle.terms.specs.Tree.{pair}
use Rattle.terms.specs.Fleet.{family}
use Rattle.fleet.specs.Node.{last_depth, last_label}
use Rattle.record.specs.Record.{field_bytes, said_depth, said_label}
use Rattle.record.specs.NextRecord.{Step, step_of, after_last, next_record}
use Rattle.sheet.specs.Reading.{accepted, go_on, read_on, reading, count_answer}
use Rattle.fleet.specs.Reader.{ReaderOf}
use Rattle.record.specs.Judging.{FieldsAt, JudgedAt}
use Rattle.fleet.specs.declared.reader.Reader.{Reader}
use Rattle.record.specs.declared.Fields.{Fields}
use Rattle.record.specs.declared.Judged.{Judged}
use Rattle.fleet.specs.declared.Answer.TheVariants.{Done, Refused}
use Rattle.record.proofs.RecordLaws.{Right}
use Rattle.fleet.proofs.ReaderSteps.{Goes, goes_on}
use Rattle.record.proofs.RecordSteps.{from, depth_said, label_said, bytes_after}
use Rattle.fleet.proofs.FleetGrowth.{last_end}
use Rattle.sheet.proofs.ReadingTurns.{one_turn, accepted_at_end, turns_enough, reads_on}

-- between two turns of count: some pairs were read, what is kept is theirs, and the rest of the sheet says what the sheet says
pub record Between (sheet : List ℕ) (at : ℕ) (reader : Reader) (families : List ℕ) : Type 0 where
  pub before : List ℕ
  pub stands : ReaderOf before reader families
  pub rest_says : read_on (suc (length sheet)) before (drop at sheet) ≡ reading sheet

pub reading_first : (sheet : List ℕ) (reader : Reader) (families : List ℕ) → ReaderOf [] reader families → Between sheet 0 reader families
unfolding reading
reading_first sheet reader families s = record { before = []; stands = s; rest_says = refl }

module _ (sheet : List ℕ) (at : ℕ) (reader : Reader) (families : List ℕ) (g : Between sheet at reader families) where
  module _ (r : Judged) (p : JudgedAt sheet at reader families r) where
    turn : (k : ℕ) → r.number ≡ k → go_on (step_of k r.depth r.label (drop r.next sheet)) g.before (read_on (length sheet)) ≡ reading sheet
    unfolding read_on
    turn k e =
        ap (λ (s : Step). go_on s g.before (read_on (length sheet))) (ap (λ (w : ℕ). step_of w r.depth r.label (drop r.next sheet)) (sym e) ∙ p.0 g.before g.stands) ∙ g.rest_says

    pub counted_wrong : 0 < r.number → Refused r.number ≡ count_answer (reading sheet)
    unfolding count_answer go_on step_of
    counted_wrong h = go r.number refl h
      where
        go : (k : ℕ) → r.number ≡ k → 0 < k → Refused r.number ≡ count_answer (reading sheet)
        go zero e q = absurd (omega arith)
        go (suc k) e q = rw (← turn (suc k) e) (ap Refused e)

    pub reading_turn : r.number ≡ 0 → length families ≡ 16 → (reader' : Reader) (families' : List ℕ) → Goes reader r.depth r.label reader' → families' ≡ set families r.depth (family r.label)
        → (length families' ≡ 16) × Between sheet r.next reader' families'
    unfolding go_on step_of
    reading_turn z wide reader' families' goes e =
        let k = goes_on _ _ goes wide e g.stands in
        let a : at < r.next = (p.1 z).1.0 in
        let b : r.next ≤ length sheet = (p.1 z).1.1 in (
          k.0,
          record {
            before = g.before ++ pair r.depth r.label ∷ [];
            stands = k.1;
            rest_says =
                turns_enough (suc (length sheet)) (length sheet) (g.before ++ pair r.depth r.label ∷ []) (drop r.next sheet) (omega (arith, length-drop r.next sheet)) (omega (arith, length-drop r.next sheet))
                ∙ turn 0 z;
          },
        )

  module _ (h : length sheet ≤ at) where
    last_turn : go_on (after_last g.before) g.before (read_on (length sheet)) ≡ reading sheet
    unfolding read_on next_record
    last_turn = rw (drop_of_length-le sheet {i = at} h) at g.rest_says

    pub counted_none : reader.nodes ≡ 0 → Refused 1 ≡ count_answer (reading sheet)
    unfolding count_answer go_on after_last
    counted_none e = go g.before (g.stands.nodes_are ∙ e) last_turn
      where
        go : (b : List ℕ) → length b ≡ 0 → go_on (after_last b) b (read_on (length sheet)) ≡ reading sheet → Refused 1 ≡ count_answer (reading sheet)
        go [] q t = rw (← t) refl
        go (x ∷ b) q t = absurd (omega arith)

    pub counted_all : reader.nodes ≢ 0 → Done reader.nodes ≡ count_answer (reading sheet)
    unfolding count_answer go_on after_last
    counted_all n = go g.before g.stands.nodes_are last_turn
      where
        go : (b : List ℕ) → length b ≡ reader.nodes → go_on (after_last b) b (read_on (length sheet)) ≡ reading sheet → Done reader.nodes ≡ count_answer (reading sheet)
        go [] q t = absurd (n (sym q))
        go (x ∷ b) q t = rw (← t) (ap Done (sym q))

-- between two turns of fill: some pairs were read, the next record's absent fields mean c and m, the rest of the sheet says all the pairs,
-- and those read stand at the front of the output
pub record Filling (sheet pairs out₀ output : List ℕ) (at c m i : ℕ) : Type 0 where
  pub before : List ℕ
  pub deeper_is : suc (last_depth before) ≡ c
  pub label_is : last_label before ≡ m
  pub nodes_are : length before ≡ i
  pub rest_says : read_on (suc (length sheet)) before (drop at sheet) ≡ accepted pairs
  pub so_far : output ≡ before ++ drop i out₀

pub filling_first : (sheet pairs output : List ℕ) → reading sheet ≡ accepted pairs → Filling sheet pairs output output 0 1 0 0
unfolding reading
filling_first sheet pairs output e = record { before = []; deeper_is = refl; label_is = refl; nodes_are = refl; rest_says = e; so_far = refl }

-- one more number behind those at the front
pub one_more : (b out₀ : List ℕ) (x i : ℕ) → length b ≡ i → i < length out₀ → set (b ++ drop i out₀) i x ≡ (b ++ x ∷ []) ++ drop (suc i) out₀
one_more b out₀ x i e h =
    ap (λ (w : List ℕ). set (b ++ w) i x) (drop-cons out₀ i 0 h) ∙ set_at b (get_or out₀ i 0) (drop (suc i) out₀) x i e ∙ sym (append_assoc b (x ∷ []) (drop (suc i) out₀))

-- what a turn of fill has room for
pub record TurnFits (sheet out₀ : List ℕ) (at i : ℕ) (r : Fields) : Type 0 where
  pub depth_to_15 : r.depth ≤ 15
  pub label_to_999 : r.label ≤ 999
  pub room : i < length out₀
  pub onward : at < r.next
  pub within : r.next ≤ length sheet

module _ {sheet pairs out₀ output : List ℕ} {at c m i : ℕ} (f : Filling sheet pairs out₀ output at c m i) where
  pub filled : length sheet ≤ at → output ≡ pairs ++ drop (length pairs) out₀
  filled h =
      let e : f.before ≡ pairs = (accepted_at_end (length sheet) f.before pairs (rw (drop_of_length-le sheet {i = at} h) at f.rest_says)).1 in
      let n : length pairs ≡ i = ap length (sym e) ∙ f.nodes_are in
      f.so_far ∙ ap (λ (w : List ℕ). w ++ drop i out₀) e ∙ ap (λ (k : ℕ). pairs ++ drop k out₀) (sym n)

  module _ (inside : at < length sheet) where
    this_turn : Right f.before (get_or sheet at 0) (drop (suc at) sheet)
        × (read_on (length sheet) (f.before ++ pair (said_depth f.before (get_or sheet at 0) (drop (suc at) sheet)) (said_label f.before (get_or sheet at 0) (drop (suc at) sheet)) ∷ []) (drop (field_bytes (get_or sheet at 0)) (drop (suc at) sheet)) ≡ accepted pairs)
    this_turn = one_turn (length sheet) f.before (get_or sheet at 0) (drop (suc at) sheet) pairs (rw (from f.before sheet at inside) at f.rest_says)

    pub fields_within : at + 1 + field_bytes (get_or sheet at 0) ≤ length sheet
    fields_within = omega (arith, this_turn.0.rule4, length-drop (suc at) sheet)

    module _ (r : Fields) (read : FieldsAt sheet at c m r) (enough : length pairs ≤ length out₀) where
      depth_is : said_depth f.before (get_or sheet at 0) (drop (suc at) sheet) ≡ r.depth
      depth_is = depth_said f.before sheet at c m f.deeper_is f.label_is r read

      label_is : said_label f.before (get_or sheet at 0) (drop (suc at) sheet) ≡ r.label
      label_is = label_said f.before sheet at c m f.deeper_is f.label_is r read

      next_is : drop (field_bytes (get_or sheet at 0)) (drop (suc at) sheet) ≡ drop r.next sheet
      next_is = bytes_after sheet at ∙ ap (λ (k : ℕ). drop k sheet) (sym read.next_is)

      rest_on : read_on (length sheet) (f.before ++ pair r.depth r.label ∷ []) (drop r.next sheet) ≡ accepted pairs
      rest_on = rw (depth_is, label_is, next_is) at this_turn.1

      pub turn_fits : TurnFits sheet out₀ at i r
      turn_fits = record {
        depth_to_15 = rw depth_is at this_turn.0.node.rule5.1.1;
        label_to_999 = rw label_is at this_turn.0.node.rule6.1;
        room = omega (arith, f.nodes_are, reads_on (length sheet) (f.before ++ pair r.depth r.label ∷ []) (drop r.next sheet) pairs rest_on, length-append f.before (pair r.depth r.label ∷ []));
        onward = omega (arith, read.next_is);
        within = omega (arith, read.next_is, fields_within);
      }

      filling_next : Filling sheet pairs out₀ (set output i (1000 * r.depth + r.label)) r.next (r.depth + 1) r.label (i + 1)
      filling_next =
          let x = pair r.depth r.label in
          let small : r.label ≤ 999 = turn_fits.label_to_999 in
          let z : suc i ≡ i + 1 = omega arith in
          record {
            before = f.before ++ x ∷ [];
            deeper_is = omega (arith, ap (λ (y : ℕ). y / 1000) (last_end f.before x), small);
            label_is = ap (λ (y : ℕ). y % 1000) (last_end f.before x) ∙ omega (arith, small);
            nodes_are = omega (arith, f.nodes_are, length-append f.before (x ∷ []));
            rest_says = turns_enough (suc (length sheet)) (length sheet) (f.before ++ x ∷ []) (drop r.next sheet) (omega (arith, length-drop r.next sheet)) (omega (arith, length-drop r.next sheet, turn_fits.onward, inside)) ∙ rest_on;
            so_far = ap (λ (w : List ℕ). set w i (1000 * r.depth + r.label)) f.so_far ∙ one_more f.before out₀ x i f.nodes_are turn_fits.room ∙ ap (λ (k : ℕ). (f.before ++ x ∷ []) ++ drop k out₀) z;
          }

      pub filling_turn : length output ≡ length out₀
          → (r.next ≤ length sheet) × ((length (set output i (1000 * r.depth + r.label)) ≡ length out₀) × Filling sheet pairs out₀ (set output i (1000 * r.depth + r.label)) r.next (r.depth + 1) r.label (i + 1))
      filling_turn e = (turn_fits.within, (length-set output i (1000 * r.depth + r.label) ∙ e, filling_next))
