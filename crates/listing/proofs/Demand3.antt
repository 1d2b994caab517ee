-- The theorems of demand 3 about listings, with what they rest on. The session claim is in SessionLaws, the claims about one call in CallLaws.
use mathlib.Core.Path.{◌≡◌, refl, sym, ap, ◌∙◌}
use mathlib.Core.List.{List, [], ◌∷◌}
use mathlib.Core.Logic.{◌↔◌, inl, inr}
use mathlib.Core.Option.{none}
use Prim.Native.Nat.{ℕ, zero, suc, ◌≤◌, ◌<◌}
use native.Mathlib.Omega.{arith}
use native.Mathlib.Decide.{dec_le}
use lib.ListN.{length, get_or}
use Rattle.terms.specs.Tree.{IsTree, IsTreeAnyDepth}
use Rattle.terms.specs.Matching.{SameTree}
use Rattle.terms.specs.Placing.{Occurs}
use Rattle.terms.specs.Form.{IsForm}
use Rattle.terms.specs.Fleet.{IsFleet, vehicles}
use Rattle.terms.specs.Remarks.{without_remarks, each_without_remarks}
use Rattle.terms.proofs.OccursDecided.{occurs?}
use Rattle.terms.proofs.RemarkLaws.{fleet_without_remarks}
use Rattle.terms.proofs.MatchingLaws.{occurs_trans, occurs_trans_any_depth, occurs_both, same_length, same_occurs, same_reflexive, same_symmetric}
use Rattle.terms.proofs.FormLaws.{form_exists, form_unique, form_of_same}
use Rattle.terms.proofs.TreeLaws.{tree_any_depth}
use Rattle.occurrence.specs.Support.{support, counted}
use Rattle.occurrence.proofs.SupportLaws.{never_grows_same, support_exactly, whole_support_single, counted_yes, counted_holds, counted_no, holding_most}
use Rattle.supertrees.specs.Supertree.{ProperSupertree}
use Rattle.supertrees.specs.Profile.{full, Selects}
use Rattle.supertrees.proofs.AnyDepth.{occurs_no_larger, occurs_same_size}
use Rattle.supertrees.proofs.ProfileLaws.{selects_same}
use Rattle.search.specs.declared.Request.{Request}
use Rattle.search.specs.Counted.{Entry}
use Rattle.listing.specs.Listing.{Asked, Listed, count_of, no_entry, formAt, listed_forms, IsListing}
use Rattle.listing.specs.ListedSelected.{count_never_grows, ListedForm, listed_form, form_listed, listed_finite}
use Rattle.listing.specs.Session.{ended, answers, GoThrough, before_end}
use Rattle.listing.specs.Claims.{SessionClaim, HeldAlike, ComparisonClaim, SameListed, ProfileComparisonClaim, SingleVehicleClaim, OwnFormClaim, ListExistsClaim, ListUniqueClaim, ListedToTheEndClaim, ListingIsListClaim, EmptyListClaim, CallCountClaim}
use Rattle.listing.proofs.ListLaws.{list_unique, list_exists, list_other, Belongs, has_belongs, belongs_has}
use Rattle.listing.proofs.AskedLaws.{kept_parts}
use Rattle.listing.proofs.RepliesLaws.{at_start, whole_before_end}
use Rattle.listing.proofs.SessionLaws.{session_claim}
use Rattle.listing.proofs.ListedToTheEnd.{go_on}

pub list_exists_claim : ListExistsClaim
unfolding ListExistsClaim
list_exists_claim asked = list_exists (listed_finite asked)

pub list_unique_claim : ListUniqueClaim
unfolding ListUniqueClaim
list_unique_claim asked entries others a b = list_unique a b

pub empty_list_claim : EmptyListClaim
unfolding EmptyListClaim support
empty_list_claim asked h = record {
  lightest_first = λ i j a b. absurd (omega arith);
  all_held = λ i a. absurd (omega arith);
  with_count = λ i a. absurd (omega arith);
  none_missing = λ form l. absurd (omega (arith, (listed_form l).enough, holding_most form (vehicles asked.fleet)));
}

pub call_count_claim : CallCountClaim
unfolding CallCountClaim SessionClaim
call_count_claim asked exchanges k s entries l i h = (to (dec_le (length entries) i), λ b. g.then_end i h b)
  where
    g : GoThrough entries (answers exchanges)
    g = session_claim asked exchanges k s entries l

    to : Dec (length entries ≤ i) → get_or (answers exchanges) i ended ≡ ended → length entries ≤ i
    to (yes b) e = b
    to (no b) e = let q = g.forms_first i h (omega arith) in let z : ◌≡◌ {A = ℕ} 0 1 = cc in absurd (omega arith)

pub listing_is_list_claim : ListingIsListClaim
unfolding ListingIsListClaim SessionClaim ListExistsClaim
listing_is_list_claim asked entries l = rw same at list.1
  where
    list : (L : List Entry) × IsListing asked L
    list = list_exists_claim asked

    same : list.0 ≡ entries
    same = sym (whole_before_end (answers l.exchanges) list.0 (session_claim asked l.exchanges l.as_promised l.session list.0 list.1)
        l.end_at l.reaches_end.0 l.reaches_end.1) ∙ l.gives

pub listed_to_the_end_claim : ListedToTheEndClaim
unfolding ListedToTheEndClaim ListExistsClaim
listed_to_the_end_claim asked r =
    let list : (L : List Entry) × IsListing asked L = list_exists_claim asked in
    let t = go_on asked list.0 list.1 r (length list.0) 0 none at_start (omega arith) in
    (before_end (answers t.exchanges), record { exchanges = t.exchanges; as_promised = t.as_promised; session = t.session; end_at = t.end_at; reaches_end = t.reaches_end; gives = refl })

-- THE COMPARISON OF TWO FLEETS, at any profile

-- equal lists: what is listed in one is listed in the other, with its count
listed_in_both : (asked other : Asked) (entries : List Entry) → IsListing asked entries → IsListing other entries → (form : List ℕ) → Listed asked form → Listed other form × (count_of asked form ≡ count_of other form)
listed_in_both asked other entries a b form l =
    let e : Entry = record { form = form; held = count_of asked form } in
    let k = has_belongs b e (belongs_has a e (record { holds = l; counted = refl })) in
    (k.holds, k.counted)

same_listed_belongs : (asked other : Asked) → SameListed asked other → (e : Entry) → Belongs (listed_forms asked) e → Belongs (listed_forms other) e
same_listed_belongs asked other s e b = record { holds = (s.forms e.form).0 b.holds; counted = b.counted ∙ s.counts e.form b.holds }

same_listed_swap : {asked other : Asked} → SameListed asked other → SameListed other asked
same_listed_swap s = record { forms = λ form. ((s.forms form).1, (s.forms form).0); counts = λ form l. sym (s.counts form ((s.forms form).1 l)) }

lists_equal : (asked other : Asked) (entries others : List Entry) → IsListing asked entries → IsListing other others → (entries ≡ others) ↔ SameListed asked other
lists_equal asked other entries others a b = (
  (λ e. let c : IsListing other entries = rw e b in record { forms = λ form. ((λ l. (listed_in_both asked other entries a c form l).0), (λ l. (listed_in_both other asked entries c a form l).0)); counts = λ form l. (listed_in_both asked other entries a c form l).1 }),
  (λ s. list_unique (list_other a (same_listed_belongs asked other s) (same_listed_belongs other asked (same_listed_swap s))) b),
)

pub profile_comparison_claim : ProfileComparisonClaim
unfolding ProfileComparisonClaim ListingIsListClaim
profile_comparison_claim asked other _ _ _ entries others a b = lists_equal asked other entries others (listing_is_list_claim asked entries a) (listing_is_list_claim other others b)

-- counts that agree on trees: the same is listed
abbrev Agree : Asked → Asked → Type 0
Agree asked other = (s : List ℕ) → IsTreeAnyDepth s → count_of asked s ≡ count_of other s

pub agreed_listed : (asked other : Asked) → other.request ≡ asked.request → Agree asked other → (form : List ℕ) → Listed asked form → Listed other form
agreed_listed asked other e same form l =
    let s = listed_form l in
    let t = tree_any_depth s.in_form.is_tree in
    form_listed (record {
      in_form = s.in_form;
      up_to_bound = rw e s.up_to_bound;
      enough = rw e (omega (arith, s.enough, same form t));
      selects = rw e (selects_same same asked.request.profile asked.request.threshold form t s.selects);
    })

pub agreed_same : (asked other : Asked) → other.request ≡ asked.request → Agree asked other → SameListed asked other
agreed_same asked other e same = record {
  forms = λ form. (agreed_listed asked other e same form, agreed_listed other asked (sym e) (λ s t. sym (same s t)) form);
  counts = λ form l. same form (tree_any_depth (listed_form l).in_form.is_tree);
}

-- THE COMPARISON OF TWO FLEETS, full lists

full_selects : (count : List ℕ → ℕ) (threshold : ℕ) (form : List ℕ) (profile : ℕ) → profile ≡ full → Selects profile count threshold form
unfolding Selects
full_selects count threshold form zero e = tt
full_selects count threshold form (suc profile) e = absurd (omega arith)

abbrev Alike : Asked → Asked → Type 0
Alike asked other = (s : List ℕ) → IsTree s → length s ≤ asked.request.bound → HeldAlike asked other s

-- the same listed: every tree up to the bound that is counted often enough is listed in its form
held_in_both : (asked other : Asked) → asked.request.profile ≡ full → SameListed asked other
    → (s : List ℕ) → IsTree s → length s ≤ asked.request.bound → asked.request.threshold ≤ count_of asked s → count_of asked s ≡ count_of other s
held_in_both asked other p both s ts small enough =
    let z = form_exists s ts in
    let f = z.0 in
    let i : IsForm s f = z.1 in
    let l : Listed asked f = record { tree = s; is_tree = ts; up_to_bound = small; enough = enough; its_form = i; selects = full_selects (count_of asked) asked.request.threshold f asked.request.profile p } in
    same asked f i.is_tree i.same ∙ both.counts f l ∙ sym (same other f i.is_tree i.same)
  where
    same : (asked : Asked) (f : List ℕ) → IsTree f → SameTree s f → count_of asked s ≡ count_of asked f
    same asked f tf e = never_grows_same (count_never_grows asked) (tree_any_depth ts) (tree_any_depth tf) e

same_alike : (asked other : Asked) → other.request ≡ asked.request → asked.request.profile ≡ full → SameListed asked other → Alike asked other
same_alike asked other e p both s ts small = go (dec_le asked.request.threshold (count_of asked s)) (dec_le other.request.threshold (count_of other s))
  where
    go : Dec (asked.request.threshold ≤ count_of asked s) → Dec (other.request.threshold ≤ count_of other s) → HeldAlike asked other s
    go (yes h) _ = inl (held_in_both asked other p both s ts small h)
    go (no h) (yes k) = inl (sym (held_in_both other asked (ap (λ (r : Request). r.profile) e ∙ p) (same_listed_swap both) s ts (rw e small) k))
    go (no h) (no k) = inr (omega arith, omega arith)

-- held alike: what is listed in one is listed in the other, with its count
alike_listed : (asked other : Asked) → other.request ≡ asked.request → asked.request.profile ≡ full → Alike asked other → (form : List ℕ) → Listed asked form → Listed other form × (count_of asked form ≡ count_of other form)
alike_listed asked other e p alike form l = go (alike form z.in_form.is_tree z.up_to_bound)
  where
    z : ListedForm asked form
    z = listed_form l

    go : HeldAlike asked other form → Listed other form × (count_of asked form ≡ count_of other form)
    go (inl q) = (form_listed (record { in_form = z.in_form; up_to_bound = rw e z.up_to_bound; enough = rw e (omega (arith, z.enough)); selects = full_selects (count_of other) other.request.threshold form other.request.profile (ap (λ (r : Request). r.profile) e ∙ p) }), q)
    go (inr q) = absurd (omega (arith, z.enough, q.0))

alike_swap : (asked other : Asked) (s : List ℕ) → HeldAlike asked other s → HeldAlike other asked s
alike_swap asked other s (inl e) = inl (sym e)
alike_swap asked other s (inr h) = inr (h.1, h.0)

alike_same : (asked other : Asked) → other.request ≡ asked.request → asked.request.profile ≡ full → Alike asked other → SameListed asked other
alike_same asked other e p alike = record {
  forms = λ form. ((λ l. (alike_listed asked other e p alike form l).0), (λ l. (alike_listed other asked (sym e) (ap (λ (r : Request). r.profile) e ∙ p) (λ s ts h. alike_swap asked other s (alike s ts (rw (sym e) h))) form l).0));
  counts = λ form l. (alike_listed asked other e p alike form l).1;
}

pub comparison_claim : ComparisonClaim
unfolding ComparisonClaim ProfileComparisonClaim
comparison_claim asked other e p r r' entries others a b =
    let c = profile_comparison_claim asked other e r r' entries others a b in
    ((λ q. same_alike asked other e p (c.0 q)), (λ alike. c.1 (alike_same asked other e p alike)))

-- TWO FLEETS OF ONE VEHICLE EACH

-- what is counted in the fleet's one vehicle, whose tree is this when the remarks are taken out
record Single (fleet t : List ℕ) : Type 0 where
  is_tree : IsTree t
  counts : (s : List ℕ) → support fleet s ≡ counted (occurs? s t)

single : (fleet tree : List ℕ) → IsFleet fleet → vehicles fleet ≡ tree ∷ [] → Single fleet (without_remarks tree)
unfolding each_without_remarks
single fleet tree f e =
    let w = fleet_without_remarks fleet f in
    let v : vehicles (without_remarks fleet) ≡ without_remarks tree ∷ [] = w.1 ∙ ap each_without_remarks e in
    let l : length (vehicles (without_remarks fleet)) ≡ 1 = ap length v in
    record {
      is_tree = rw (ap (λ (ts : List (List ℕ)). get_or ts 0 []) v) at (w.0.each 0 (omega arith)).is_tree;
      counts = λ s. support_exactly fleet s f ∙ whole_support_single (without_remarks fleet) s (without_remarks tree) v;
    }

module _ {fleet t : List ℕ} (one : Single fleet t) where
  held_once : {s : List ℕ} → Occurs s t → support fleet s ≡ 1
  held_once {s} o = one.counts s ∙ counted_yes o (occurs? s t)

  held_occurs : {s : List ℕ} → 1 ≤ support fleet s → Occurs s t
  held_occurs {s} h = counted_holds (occurs? s t) (omega (arith, one.counts s))

  itself_once : support fleet t ≡ 1
  itself_once = held_once (same_occurs (same_reflexive one.is_tree))

  module _ {f : List ℕ} (i : IsForm t f) where
    form_once : support fleet f ≡ 1
    form_once = held_once (same_occurs (same_symmetric one.is_tree i.is_tree i.same))

    -- no larger tree is held
    none_larger : (q : List ℕ) → ProperSupertree f q → support fleet q ≡ 0
    none_larger q s = one.counts q ∙ counted_no (λ o. omega (arith, s.more_nodes, same_length i.same, occurs_no_larger o)) (occurs? q t)

    form_selected : (profile threshold : ℕ) → threshold ≡ 1 → Selects profile (support fleet) threshold f
    unfolding Selects
    form_selected zero threshold e = tt
    form_selected (suc zero) threshold e = record { none_equal = λ q s h. omega (arith, none_larger q s, form_once, h) }
    form_selected (suc (suc n)) threshold e = record { none_reaches = λ q s h. omega (arith, none_larger q s, e, h) }

-- the vehicle's own form is listed at every profile
own_listed : (asked : Asked) {t f : List ℕ} → asked.request.threshold ≡ 1 → Single asked.fleet t → length t ≤ asked.request.bound → IsForm t f → Listed asked f
own_listed asked {t} e one small i = record { tree = t; is_tree = one.is_tree; up_to_bound = small; enough = omega (arith, e, itself_once one); its_form = i; selects = form_selected one i asked.request.profile asked.request.threshold e }

own_occurs : (asked other : Asked) {t u : List ℕ} → asked.request.threshold ≡ 1 → Single asked.fleet t → Single other.fleet u → length t ≤ asked.request.bound → SameListed asked other → Occurs t u
own_occurs asked other {t} {u} e one one' small both =
    let z = form_exists t one.is_tree in
    let i : IsForm t z.0 = z.1 in
    let n = both.counts z.0 (own_listed asked e one small i) in
    occurs_trans one.is_tree (same_occurs i.same) (held_occurs one' (omega (arith, n, form_once one i)))

same_agree : (fleet other t u : List ℕ) → Single fleet t → Single other u → Occurs t u → Occurs u t → (s : List ℕ) → IsTreeAnyDepth s → support fleet s ≡ support other s
same_agree fleet other t u one one' a b s ts = go (occurs? s t) (occurs? s u)
  where
    go : Dec (Occurs s t) → Dec (Occurs s u) → support fleet s ≡ support other s
    go (yes h) _ = held_once one h ∙ sym (held_once one' (occurs_trans_any_depth ts h a))
    go (no h) (yes k) = absurd (h (occurs_trans_any_depth ts k b))
    go (no h) (no k) = one.counts s ∙ counted_no h (occurs? s t) ∙ sym (counted_no k (occurs? s u)) ∙ sym (one'.counts s)

pub single_vehicle_claim : SingleVehicleClaim
unfolding SingleVehicleClaim ProfileComparisonClaim
single_vehicle_claim asked other tree tree' same r r' th e e' ht hu entries others a b =
    let c = profile_comparison_claim asked other same r r' entries others a b in
    let th' : other.request.threshold ≡ 1 = ap (λ (request : Request). request.threshold) same ∙ th in
    let o = single asked.fleet tree (kept_parts asked r).is_fleet e in
    let o' = single other.fleet tree' (kept_parts other r').is_fleet e' in
    let t = without_remarks tree in
    let u = without_remarks tree' in (
      (λ q. let both = c.0 q in occurs_both o.is_tree (own_occurs asked other th o o' ht both) (own_occurs other asked th' o' o (rw same hu) (same_listed_swap both))),
      (λ q. c.1 (agreed_same asked other same (same_agree asked.fleet other.fleet t u o o' (same_occurs q) (same_occurs (same_symmetric o.is_tree o'.is_tree q))))),
    )

-- what is closed or maximal there is the tree's own form
nothing_smaller : {fleet t : List ℕ} → Single fleet t → (g : List ℕ) (profile threshold : ℕ) → 1 ≤ profile → threshold ≡ 1 → Occurs g t → Selects profile (support fleet) threshold g → ¬ (length g < length t)
unfolding Selects
nothing_smaller one g zero threshold h e o k l = omega arith
nothing_smaller {t = t} one g (suc zero) threshold h e o k l = k.none_equal t (record { is_tree = tree_any_depth one.is_tree; occurs = o; more_nodes = l }) (itself_once one ∙ sym (held_once one o))
nothing_smaller {t = t} one g (suc (suc n)) threshold h e o k l = k.none_reaches t (record { is_tree = tree_any_depth one.is_tree; occurs = o; more_nodes = l }) (omega (arith, e, itself_once one))

pub own_form_claim : OwnFormClaim
unfolding OwnFormClaim
own_form_claim asked tree form h r th e small i = record {
  lightest_first = λ i j a b. absurd (omega arith);
  all_held = only (λ f. Listed asked f) (own_listed asked th one small i);
  with_count = λ k a. only_count k a;
  none_missing = λ g l. (0, omega arith, sym (is g (listed_form l)));
}
  where
    one : Single asked.fleet (without_remarks tree)
    one = single asked.fleet tree (kept_parts asked r).is_fleet e

    entry : Entry
    entry = record { form = form; held = 1 }

    only : (P : List ℕ → Type 0) → P form → (k : ℕ) → k < 1 → P (formAt (entry ∷ []) k)
    only P p zero a = p
    only P p (suc k) a = absurd (omega arith)

    only_count : (k : ℕ) → k < 1 → (get_or (entry ∷ []) k no_entry).held ≡ count_of asked (formAt (entry ∷ []) k)
    only_count zero a = sym (form_once one i)
    only_count (suc k) a = absurd (omega arith)

    is : (g : List ℕ) → ListedForm asked g → g ≡ form
    is g s =
        let o : Occurs g (without_remarks tree) = held_occurs one (omega (arith, th, s.enough)) in
        let n = nothing_smaller one g asked.request.profile asked.request.threshold h th o s.selects in
        let k = occurs_no_larger o in
        let same = occurs_same_size (tree_any_depth s.in_form.is_tree) (omega arith) o in
        form_unique s.in_form (form_of_same s.in_form.is_tree one.is_tree same i)
