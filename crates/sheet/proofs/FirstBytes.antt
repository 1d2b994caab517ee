-- LAWS. The first 16,388 bytes of a sheet decide it: a record has at most 4 bytes, and record 4,097 is refused at the latest.
use mathlib.Core.Path.{◌≡◌, refl, sym, ap, ◌∙◌}
use mathlib.Core.List.{List, [], ◌∷◌, ◌++◌}
use Prim.Native.Nat.{ℕ, zero, suc, ◌+◌, ◌-◌, ◌*◌, ◌≤◌, ◌<◌}
use native.Mathlib.Omega.{arith}
use native.Mathlib.Decide.{dec_lt, dec_le}
use lib.ListN.{length, get_or, take, drop, length-drop, length-take, length-append}
use lib.Seq.{get_or-take, take-nil}
use Rattle.terms.specs.Tree.{pair}
use Rattle.terms.specs.Fleet.{most_nodes}
use Rattle.fleet.specs.Node.{last_depth, last_label}
use Rattle.record.specs.Record.{depth_bit, label_bit, field_bytes, field_or, said_depth, said_label, NoHighBit, FirstHasBoth, FieldsFit}
use Rattle.record.specs.RecordDecided.{first_has_both?}
use Rattle.record.specs.NextRecord.{step_of, next_record}
use Rattle.sheet.specs.Reading.{go_on, read_on, reading}
use Rattle.record.proofs.RecordLaws.{Right, record_refusal, said_refusal, wrong_2, wrong_3, wrong_4, right_4, zero_right}
use Rattle.sheet.proofs.ReadingTurns.{turns_enough}
use Rattle.sheet.specs.Claims.{FirstBytesDecide}

-- a beginning that is long enough for the fields of a record
module _ (before : List ℕ) (bits : ℕ) (bytes : List ℕ) (c : ℕ) (wide : 3 ≤ c) where
  byte : (i : ℕ) → i < 3 → get_or (take c bytes) i 0 ≡ get_or bytes i 0
  byte i h = get_or-take c bytes i 0 (omega arith)

  same_depth : said_depth before bits (take c bytes) ≡ said_depth before bits bytes
  same_depth = ap (λ (y : ℕ). field_or (depth_bit bits) y (suc (last_depth before))) (byte 0 (omega arith))

  same_label : said_label before bits (take c bytes) ≡ said_label before bits bytes
  same_label =
      ap (λ (y : ℕ). field_or (label_bit bits) (y + 256 * get_or (take c bytes) (suc (depth_bit bits)) 0) (last_label before)) (byte (depth_bit bits) (omega arith))
      ∙ ap (λ (y : ℕ). field_or (label_bit bits) (get_or bytes (depth_bit bits) 0 + 256 * y) (last_label before)) (byte (suc (depth_bit bits)) (omega arith))

  fits_to : NoHighBit bits → FieldsFit bits bytes → FieldsFit bits (take c bytes)
  fits_to h f = omega (arith, length-take c bytes)

  fits_from : FieldsFit bits (take c bytes) → FieldsFit bits bytes
  fits_from f = omega (arith, length-take c bytes)

  -- the record is judged alike
  same_refusal : record_refusal before bits (take c bytes) ≡ record_refusal before bits bytes
  same_refusal = high (dec_lt bits 4)
    where
      node_alike : said_refusal before bits (said_depth before bits (take c bytes)) (said_label before bits (take c bytes)) ≡ said_refusal before bits (said_depth before bits bytes) (said_label before bits bytes)
      node_alike =
          ap (λ (d : ℕ). said_refusal before bits d (said_label before bits (take c bytes))) same_depth
          ∙ ap (λ (l : ℕ). said_refusal before bits (said_depth before bits bytes) l) same_label

      fields : NoHighBit bits → FirstHasBoth before bits → Dec (FieldsFit bits bytes) → record_refusal before bits (take c bytes) ≡ record_refusal before bits bytes
      fields h2 h3 (yes f) = right_4 before bits (take c bytes) h2 h3 (fits_to h2 f) ∙ node_alike ∙ sym (right_4 before bits bytes h2 h3 f)
      fields h2 h3 (no f) = wrong_4 before bits (take c bytes) h2 h3 (λ g. f (fits_from g)) ∙ sym (wrong_4 before bits bytes h2 h3 f)

      first : NoHighBit bits → Dec (FirstHasBoth before bits) → record_refusal before bits (take c bytes) ≡ record_refusal before bits bytes
      first h2 (yes h3) = fields h2 h3 (dec_le (field_bytes bits) (length bytes))
      first h2 (no h3) = wrong_3 before bits (take c bytes) h2 h3 ∙ sym (wrong_3 before bits bytes h2 h3)

      high : Dec (NoHighBit bits) → record_refusal before bits (take c bytes) ≡ record_refusal before bits bytes
      high (yes h2) = first h2 (first_has_both? before bits)
      high (no h2) = wrong_2 before bits (take c bytes) h2 ∙ sym (wrong_2 before bits bytes h2)

drop_take : (n c : ℕ) (s : List ℕ) → n ≤ c → drop n (take c s) ≡ take (c - n) (drop n s)
drop_take zero c s h = let e : c - 0 ≡ c = omega arith in rw e
drop_take (suc n) zero s h = absurd (omega arith)
drop_take (suc n) (suc c) [] h = sym (take-nil (suc c - suc n))
drop_take (suc n) (suc c) (x ∷ s) h = let e : suc c - suc n ≡ c - n = omega arith in rw e (drop_take n c s (omega arith))

-- with k records to come before the limit of nodes, and the one that breaks it, the next 4 k bytes decide
decides : (turns k c : ℕ) (before bytes : List ℕ) → length before + suc k ≡ suc most_nodes → 4 * suc k ≤ c → length bytes < turns → read_on turns before (take c bytes) ≡ read_on turns before bytes
unfolding read_on go_on next_record step_of
decides zero k c before bytes room h t = absurd (omega arith)
decides (suc turns) k c before [] room h t = ap (λ (w : List ℕ). go_on (next_record before w) before (read_on turns)) (take-nil c)
decides (suc turns) k zero before (bits ∷ bytes) room h t = absurd (omega arith)
decides (suc turns) k (suc c) before (bits ∷ bytes) room h t =
    go (record_refusal before bits bytes) refl
    (λ j e q. decides turns j (c - field_bytes bits) (before ++ pair (said_depth before bits bytes) (said_label before bits bytes) ∷ []) (drop (field_bytes bits) bytes)
    (omega (arith, length-append before (pair (said_depth before bits bytes) (said_label before bits bytes) ∷ []))) (omega arith) (omega (arith, length-drop (field_bytes bits) bytes)))
  where
    wide : 3 ≤ c
    wide = omega arith

    judged : record_refusal before bits (take c bytes) ≡ record_refusal before bits bytes
    judged = same_refusal before bits bytes c wide

    go : (number : ℕ) → record_refusal before bits bytes ≡ number
        → ((j : ℕ) → k ≡ suc j → bits < 4
        → read_on turns (before ++ pair (said_depth before bits bytes) (said_label before bits bytes) ∷ []) (take (c - field_bytes bits) (drop (field_bytes bits) bytes)) ≡ read_on turns (before ++ pair (said_depth before bits bytes) (said_label before bits bytes) ∷ []) (drop (field_bytes bits) bytes))
        → go_on (step_of (record_refusal before bits (take c bytes)) (said_depth before bits (take c bytes)) (said_label before bits (take c bytes)) (drop (field_bytes bits) (take c bytes))) before (read_on turns)
        ≡ go_on (step_of (record_refusal before bits bytes) (said_depth before bits bytes) (said_label before bits bytes) (drop (field_bytes bits) bytes)) before (read_on turns)
    go (suc number) e f = rw (judged, e) refl
    go zero e f = more k refl
      where
        right : Right before bits bytes
        right = zero_right before bits bytes e

        more : (k' : ℕ) → k ≡ k'
            → go_on (step_of (record_refusal before bits (take c bytes)) (said_depth before bits (take c bytes)) (said_label before bits (take c bytes)) (drop (field_bytes bits) (take c bytes))) before (read_on turns)
            ≡ go_on (step_of (record_refusal before bits bytes) (said_depth before bits bytes) (said_label before bits bytes) (drop (field_bytes bits) bytes)) before (read_on turns)
        more zero q = absurd (omega (arith, right.node.rule9.1.1))
        more (suc j) q =
            rw (judged, e, same_depth before bits bytes c wide, same_label before bits bytes c wide, drop_take (field_bytes bits) c bytes (omega (arith, right.rule2))) (f j q right.rule2)

pub first_bytes_decide : FirstBytesDecide
unfolding reading
first_bytes_decide sheet =
    turns_enough (suc (length (take 16388 sheet))) (suc (length sheet)) [] (take 16388 sheet) (omega arith) (omega (arith, length-take 16388 sheet))
    ∙ decides (suc (length sheet)) most_nodes 16388 [] sheet (omega arith) (omega arith) (omega arith)
