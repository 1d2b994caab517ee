-- LAWS. Every accepted fleet can be listed to the end: the session that does it, call by call.
use mathlib.Core.Path.{◌≡◌, refl, sym, ap, ◌∙◌}
use mathlib.Core.List.{List, [], ◌∷◌}
use mathlib.Core.Option.{Option, none, some}
use Prim.Native.Nat.{ℕ, zero, suc, ◌+◌, ◌≤◌, ◌<◌}
use native.Mathlib.Omega.{arith}
use lib.ListN.{length, get_or, take, drop, replicate, length-replicate}
use lib.Seq.{take-append_seam}
use Rattle.terms.specs.Refusal.{refusal, AllKept, none as no_rule_left, also}
use Rattle.terms.proofs.RefusalLaws.{all_kept_refusal}
use Rattle.terms.proofs.RefusalParts.{kept_both}
use Rattle.fleet.specs.Rules.{output_rule}
use Rattle.tree.specs.Rules.{size_rule, tree_rule}
use Rattle.search.specs.Counted.{Entry}
use Rattle.listing.specs.declared.Reply.TheVariants.{Form, End}
use Rattle.listing.specs.Listing.{Asked, no_entry, formAt, IsListing}
use Rattle.listing.specs.ListedSelected.{ListedForm, listed_form}
use Rattle.listing.specs.Calls.{Call, start, step, form_rule, rules, eligible, output_of, Outcome, respond, answerTo}
use Rattle.listing.specs.Session.{Exchange, AsPromised, no_more, and_also, Due, a_start, a_step, Session, over, form_given, end_given, given, ended, answers}
use Rattle.listing.specs.Claims.{Acceptable}
use Rattle.listing.proofs.ListLaws.{form_at, form_in, form_past}
use Rattle.listing.proofs.CallLaws.{answer_found}
use Rattle.listing.proofs.RepliesLaws.{Stands, at_start, behind, stands_lightest}
use Rattle.listing.proofs.SessionLaws.{lightest_due, answers_form, answers_end}

module _ (asked : Asked) (L : List Entry) (l : IsListing asked L) (r : Acceptable asked) where
  -- a call that is due, and not refused
  record Ready (last : Option (List ℕ)) : Type 0 where
    call : Call
    due : Due asked last call
    accepted : refusal (rules call) ≡ 0

  pub record ToTheEnd (last : Option (List ℕ)) : Type 0 where
    pub exchanges : List Exchange
    pub as_promised : AsPromised exchanges
    pub session : Session asked last exchanges
    pub end_at : ℕ
    pub reaches_end : (end_at < length (answers exchanges)) × (get_or (answers exchanges) end_at (given no_entry) ≡ ended)

  out : List ℕ
  out = replicate asked.request.bound 0

  out_long : asked.request.bound ≤ length out
  unfolding out
  out_long = let z : ℕ = 0 in omega (arith, length-replicate asked.request.bound z)

  ready : (n : ℕ) (last : Option (List ℕ)) → Stands L n last → Ready last
  unfolding rules
  ready n last at_start = record { call = start asked out; due = a_start out; accepted = all_kept_refusal kept }
    where
      kept : AllKept (rules (start asked out))
      kept = kept_both r (also {rule = output_rule asked.request.bound out} out_long no_rule_left)
  ready n last (behind {form = form} k h e) = record { call = step asked form out; due = a_step form out; accepted = all_kept_refusal (rw e at kept) }
    where
      z : ListedForm asked (formAt L k)
      z = listed_form (l.all_held k h)

      kept : AllKept (rules (step asked (formAt L k) out))
      kept = kept_both r
          (also {rule = size_rule (formAt L k) asked.request.bound} (z.in_form.is_tree.has_root, z.up_to_bound) (also {rule = tree_rule (formAt L k)} z.in_form.is_tree
          (also {rule = form_rule (formAt L k)} z.in_form (also {rule = output_rule asked.request.bound out} out_long no_rule_left))))

  answered : (n : ℕ) (last : Option (List ℕ)) (w : Stands L n last) (o : Option (List ℕ)) → form_at L n ≡ o
      → answerTo (ready n last w).call ≡ respond 0 o (eligible (ready n last w).call).count (output_of (ready n last w).call)
  answered n last w o e = let z = ready n last w in answer_found z.call o z.accepted (lightest_due o z.due (rw e at (stands_lightest l w)))

  pub go_on : (m n : ℕ) (last : Option (List ℕ)) → Stands L n last → n + m ≡ length L → ToTheEnd last
  unfolding respond
  go_on zero n last w h = record {
    exchanges = x ∷ [];
    as_promised = and_also refl no_more;
    session = end_given z.due said over;
    end_at = 0;
    reaches_end = rw (answers_end x [] said) (omega arith, refl);
  }
    where
      z : Ready last
      z = ready n last w

      x : Exchange
      x = record { call = z.call; outcome = answerTo z.call }

      said : (answerTo z.call).reply ≡ End
      said = ap (λ (o : Outcome). o.reply) (answered n last w none (form_past L n (omega arith)))
  go_on (suc m) n last w h = join (go_on m (suc n) (some (take (length f) x.outcome.output)) (behind n inside (sym shown)) (omega arith))
    where
      z : Ready last
      z = ready n last w

      x : Exchange
      x = record { call = z.call; outcome = answerTo z.call }

      f : List ℕ
      f = formAt L n

      inside : n < length L
      inside = omega arith

      held : ℕ
      held = (eligible z.call).count f

      whole : answerTo z.call ≡ respond 0 (some f) (eligible z.call).count (output_of z.call)
      whole = answered n last w (some f) (form_in L n inside)

      said : (answerTo z.call).reply ≡ Form (length f) held
      said = ap (λ (o : Outcome). o.reply) whole

      shown : take (length f) x.outcome.output ≡ f
      shown = ap (λ (o : Outcome). take (length f) o.output) whole ∙ take-append_seam f (drop (length f) (output_of z.call))

      join : ToTheEnd (some (take (length f) x.outcome.output)) → ToTheEnd last
      join t = record {
        exchanges = x ∷ t.exchanges;
        as_promised = and_also refl t.as_promised;
        session = form_given (length f) held z.due said t.session;
        end_at = suc t.end_at;
        reaches_end = rw (answers_form x t.exchanges (length f) held said) (omega (arith, t.reaches_end.0), t.reaches_end.1);
      }
