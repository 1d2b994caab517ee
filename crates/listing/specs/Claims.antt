-- The claims about the list, the calls and the sessions; demand 3 of the letter. `SessionClaim` is proved as `session_claim`, and so on: SessionLaws,
-- Demand3, CallLaws, ProfileListLaws, RegisterLaws, RemarkListLaws of proofs/
use Rattle.std.specs.Prelude.{◌≡◌, List, [], ◌∷◌, ◌++◌, ◌↔◌, ◌⊎◌, ℕ, ◌≤◌, ◌<◌, length, get_or, drop}
use Rattle.std.proofs.Math.Option.{none, some}
use Rattle.terms.specs.Tree.{IsTree, IsTreeAnyDepth}
use Rattle.terms.specs.Matching.{SameTree}
use Rattle.terms.specs.Form.{IsForm, InForm}
use Rattle.terms.specs.Placing.{Occurs}
use Rattle.terms.specs.Fleet.{vehicles, IsFleet}
use Rattle.terms.specs.Remarks.{HoldsRemark, without_remarks}
use Rattle.terms.specs.Lightest.{Lightest}
use Rattle.terms.specs.Refusal.{FirstBroken, AllKept}
use Rattle.supertrees.specs.Supertree.{Closed, Maximal}
use Rattle.supertrees.specs.Profile.{full, closed, maximal}
use Rattle.search.specs.Counted.{Entry}
use Rattle.listing.specs.declared.Reply.TheVariants.{Form, End, Refused}
use Rattle.listing.specs.Listing.{Asked, asks, bare, at_profile, count_of, Listed, IsListing, PartOf}
use Rattle.search.specs.declared.Request.{Request}
use Rattle.listing.specs.Calls.{Call, start, step, rules, Eligible, asked_rules, RegisterRight, eligible, asked_of, bare_call, output_of, outcome, answerTo}
use Rattle.listing.specs.Session.{Exchange, AsPromised, Session, ended, answers, GoThrough, ListingOf}

-- DEMAND 3, the session. "For every list of start and step calls, whichever are refused: if the others are on one accepted fleet at one threshold
-- and size bound, starts until a form is given and from then on steps, each given the last form, their answers are, as far as they go, every tree
-- up to the bound held by enough vehicles, once, in its form, lightest first, with its count, and after these only end." "A session at a profile
-- answers with that profile's forms" (document 02).
unfoldable pub SessionClaim : Type 0
SessionClaim = (asked : Asked) (exchanges : List Exchange) → AsPromised exchanges → Session asked none exchanges
    → (entries : List Entry) → IsListing asked entries → GoThrough entries (answers exchanges)

-- What is asked breaks no rule: an accepted fleet, with its register or none, and a request that no call refuses.
abbrev pub Acceptable : Asked → Type 1
Acceptable asked = AllKept (asked_rules asked)

-- "either held by equally many vehicles in both or by fewer than the threshold in both"
abbrev pub HeldAlike : (asked other : Asked) (tree : List ℕ) → Type 0
HeldAlike asked other tree = (count_of asked tree ≡ count_of other tree)
    ⊎ ((count_of asked tree < asked.request.threshold) × (count_of other tree < other.request.threshold))

-- DEMAND 3, the comparison. "Two accepted fleets, listed to the end at the same threshold and size bound, have listings that are equal, the same
-- forms with the same counts in the same order, exactly when every unordered tree up to that size is either held by equally many vehicles in both
-- or by fewer than the threshold in both." Each fleet may have its register beside it. Remarks take no part: a tree is held by as many
-- vehicles when they are taken out (`SupportWithoutRemarks`, crate occurrence). This is of full lists.
unfoldable pub ComparisonClaim : Type 1
ComparisonClaim = (asked other : Asked) → other.request ≡ asked.request → asked.request.profile ≡ full → Acceptable asked → Acceptable other
    → (entries others : List Entry) → ListingOf asked entries → ListingOf other others
    → (entries ≡ others) ↔ ((tree : List ℕ) → IsTree tree → length tree ≤ asked.request.bound → HeldAlike asked other tree)

-- The same forms are listed, "with equal counts".
pub record SameListed (asked other : Asked) : Type 0 where
  pub forms : (form : List ℕ) → Listed asked form ↔ Listed other form
  pub counts : (form : List ℕ) → Listed asked form → count_of asked form ≡ count_of other form

-- The comparison at any profile (document 02). "Two fleets are compared at the same profile: for closed and for maximal, listings are equal exactly
-- when the closed or maximal forms that reach the threshold, up to the size bound, are the same with equal counts."
unfoldable pub ProfileComparisonClaim : Type 1
ProfileComparisonClaim = (asked other : Asked) → other.request ≡ asked.request → Acceptable asked → Acceptable other
    → (entries others : List Entry) → ListingOf asked entries → ListingOf other others → (entries ≡ others) ↔ SameListed asked other

-- DEMAND 3, single vehicles. "For two fleets of one vehicle each, at threshold 1 and a bound no smaller than either tree, the listings are equal
-- exactly when both have the same tree up to the order of children." They "are compared with remarks taken out" (document 02), the bound too;
-- at any profile.
unfoldable pub SingleVehicleClaim : Type 1
SingleVehicleClaim = (asked other : Asked) (tree tree' : List ℕ) → other.request ≡ asked.request → Acceptable asked → Acceptable other → asked.request.threshold ≡ 1
    → vehicles asked.fleet ≡ tree ∷ [] → vehicles other.fleet ≡ tree' ∷ [] → length (without_remarks tree) ≤ asked.request.bound → length (without_remarks tree') ≤ asked.request.bound
    → (entries others : List Entry) → ListingOf asked entries → ListingOf other others
    → (entries ≡ others) ↔ SameTree (without_remarks tree) (without_remarks tree')

-- Of one vehicle, at threshold 1 and a bound no smaller than its tree, the closed list and the maximal list are its tree's form alone.
unfoldable pub OwnFormClaim : Type 1
OwnFormClaim = (asked : Asked) (tree form : List ℕ) → 1 ≤ asked.request.profile → Acceptable asked → asked.request.threshold ≡ 1 → vehicles asked.fleet ≡ tree ∷ []
    → length (without_remarks tree) ≤ asked.request.bound → IsForm (without_remarks tree) form → IsListing asked (record { form = form; held = 1 } ∷ [])

-- There is one list, for any request.
unfoldable pub ListExistsClaim : Type 0
ListExistsClaim = (asked : Asked) → (entries : List Entry) × IsListing asked entries

unfoldable pub ListUniqueClaim : Type 0
ListUniqueClaim = (asked : Asked) (entries others : List Entry) → IsListing asked entries → IsListing asked others → entries ≡ others

-- Every accepted fleet can be listed to the end.
unfoldable pub ListedToTheEndClaim : Type 1
ListedToTheEndClaim = (asked : Asked) → Acceptable asked → (entries : List Entry) × ListingOf asked entries

-- What a session which reaches end gives is the list.
unfoldable pub ListingIsListClaim : Type 0
ListingIsListClaim = (asked : Asked) (entries : List Entry) → ListingOf asked entries → IsListing asked entries

-- PROFILES (ProfileListLaws). "Both profiles are parts of the full list in its order",
unfoldable pub PartOfFullClaim : Type 0
PartOfFullClaim = (asked : Asked) (entries whole : List Entry) → IsListing asked entries → IsListing (at_profile full asked) whole → PartOf entries whole

-- "and a maximal form is always closed";
unfoldable pub MaximalIsClosedClaim : Type 0
MaximalIsClosedClaim = (asked : Asked) (form : List ℕ) → Listed (at_profile maximal asked) form → Listed (at_profile closed asked) form

-- so the maximal list is a part of the closed one.
unfoldable pub MaximalPartOfClosedClaim : Type 0
MaximalPartOfClosedClaim = (asked : Asked) (entries whole : List Entry) → IsListing (at_profile maximal asked) entries → IsListing (at_profile closed asked) whole → PartOf entries whole

-- Closed and maximal trees of any size tell of every form of the full list; the shorter lists, which end at the bound, may not. Every form of the full
-- list occurs in a closed tree with its support, maybe larger than the bound;
unfoldable pub ClosedAboveListedClaim : Type 1
ClosedAboveListedClaim = (asked : Asked) (form : List ℕ) → Acceptable asked → Listed (at_profile full asked) form
    → (tree : List ℕ) × IsTreeAnyDepth tree × Occurs form tree × (count_of asked tree ≡ count_of asked form) × Closed (count_of asked) tree

-- and the full list has just those forms up to the bound that occur in a maximal tree, of any size, which reaches the threshold.
pub record FrequentMaximal (asked : Asked) (tree : List ℕ) : Type 0 where
  pub is_tree : IsTreeAnyDepth tree
  pub enough : asked.request.threshold ≤ count_of asked tree
  pub is_maximal : Maximal (count_of asked) asked.request.threshold tree

unfoldable pub ListedByMaximalClaim : Type 1
ListedByMaximalClaim = (asked : Asked) (form : List ℕ) → Acceptable asked → InForm form → length form ≤ asked.request.bound
    → Listed (at_profile full asked) form ↔ ((tree : List ℕ) × Occurs form tree × FrequentMaximal asked tree)

-- "A threshold above the number of vehicles gives an empty list."
unfoldable pub EmptyListClaim : Type 0
EmptyListClaim = (asked : Asked) → length (vehicles asked.fleet) < asked.request.threshold → IsListing asked []

-- "From the start a list of n forms ends at the call numbered n + 1, refused ones not counted": the answer with i before it is end exactly if i is n or more.
unfoldable pub CallCountClaim : Type 0
CallCountClaim = (asked : Asked) (exchanges : List Exchange) → AsPromised exchanges → Session asked none exchanges
    → (entries : List Entry) → IsListing asked entries → (i : ℕ) → i < length (answers exchanges)
    → (get_or (answers exchanges) i ended ≡ ended) ↔ (length entries ≤ i)

-- A call is refused with a number exactly if the rule of that number is the first broken.
unfoldable pub RefusedClaim : Type 1
RefusedClaim = (call : Call) (number : ℕ) → ((answerTo call).reply ≡ Refused number) ↔ FirstBroken number (rules call)

-- "A call that breaks no rule is not refused", and one that is not refused breaks none.
unfoldable pub AnsweredClaim : Type 1
AnsweredClaim = (call : Call) → ((number : ℕ) → ¬ ((answerTo call).reply ≡ Refused number)) ↔ AllKept (rules call)

-- A call that is answered gives the lightest of the eligible forms, with its support, and puts it in front of the output;
unfoldable pub FormGivenClaim : Type 1
FormGivenClaim = (call : Call) (form : List ℕ) → AllKept (rules call) → Lightest (Eligible call) (some form)
    → answerTo call ≡ outcome (Form (length form) ((eligible call).count form)) (form ++ drop (length form) (output_of call))

-- and "End is given only when no such form exists"; the output is then untouched.
unfoldable pub EndGivenClaim : Type 1
EndGivenClaim = (call : Call) → AllKept (rules call) → (answerTo call ≡ outcome End (output_of call)) ↔ ((form : List ℕ) → ¬ Eligible call form)

-- "The list made with the register is the list made without it": what sessions that reach end give.
unfoldable pub RegisterListClaim : Type 0
RegisterListClaim = (asked : Asked) (entries others : List Entry) → ListingOf asked entries → ListingOf (bare asked) others → entries ≡ others

-- A call with a register that is this fleet's returns, and leaves in the output, what the call without it does;
unfoldable pub RightRegisterClaim : Type 0
RightRegisterClaim = (call : Call) → RegisterRight (asked_of call) → answerTo call ≡ answerTo (bare_call call)

-- with "a register that is not this fleet's" it is refused with 10, whatever else it is given.
unfoldable pub WrongRegisterClaim : Type 0
WrongRegisterClaim = (call : Call) → ¬ RegisterRight (asked_of call) → answerTo call ≡ outcome (Refused 10) (output_of call)

-- REMARKS (RemarkListLaws). Taking the remarks out of a fleet, which is then a fleet, leaves every listing as it was,
unfoldable pub RemarksTakenOutClaim : Type 0
RemarksTakenOutClaim = (fleet : List ℕ) (request : Request) → IsFleet fleet
    → IsFleet (without_remarks fleet) × ((entries : List Entry) → IsListing (asks fleet request) entries ↔ IsListing (asks (without_remarks fleet) request) entries)

-- and what a start and a step answer and leave in the output;
unfoldable pub StartWithoutRemarksClaim : Type 0
StartWithoutRemarksClaim = (fleet : List ℕ) (request : Request) (output : List ℕ) → IsFleet fleet
    → answerTo (start (asks fleet request) output) ≡ answerTo (start (asks (without_remarks fleet) request) output)

unfoldable pub StepWithoutRemarksClaim : Type 0
StepWithoutRemarksClaim = (fleet : List ℕ) (request : Request) (pattern output : List ℕ) → IsFleet fleet
    → answerTo (step (asks fleet request) pattern output) ≡ answerTo (step (asks (without_remarks fleet) request) pattern output)

-- so fleets that are the same with remarks taken out have the same listings, each with its register or without.
unfoldable pub DifferByRemarksClaim : Type 1
DifferByRemarksClaim = (asked other : Asked) → other.request ≡ asked.request → Acceptable asked → Acceptable other → without_remarks asked.fleet ≡ without_remarks other.fleet
    → (entries others : List Entry) → ListingOf asked entries → ListingOf other others → entries ≡ others

-- No listed form holds a family 6 label.
unfoldable pub NoRemarkListedClaim : Type 0
NoRemarkListedClaim = (asked : Asked) (form : List ℕ) → 1 ≤ asked.request.threshold → Listed asked form → ¬ HoldsRemark form
