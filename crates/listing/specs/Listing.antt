-- Document 01, "The list", and document 02, "Closed and maximal lists": what is asked for, what is listed, and when entries are the list.
use Rattle.std.specs.Prelude.{◌≡◌, List, [], ◌∷◌, ℕ, ◌≤◌, ◌<◌, length, get_or}
use Rattle.terms.specs.Tree.{IsTree}
use Rattle.terms.specs.Order.{Lighter}
use Rattle.terms.specs.Form.{IsForm}
use Rattle.occurrence.specs.Support.{support}
use Rattle.supertrees.specs.Profile.{Selects}
use Rattle.search.specs.declared.Request.{Request}
use Rattle.search.specs.Counted.{Counted, Entry}

-- A register lent beside the fleet, or none (document 02, "a label register beside the fleet"). It need not be this fleet's.
pub data LentRegister : Type 0 where
  no_register : LentRegister
  a_register : (nodes holders : List ℕ) → LentRegister

-- All that a call takes beside pattern and output: "fleet, threshold, size bound", and the profile. These three are fields of the code's `Request`.
-- What is listed does not speak of the register.
pub record Asked : Type 0 where
  pub fleet : List ℕ
  pub request : Request
  pub register : LentRegister

-- The request, asked of a fleet,
abbrev pub asks : (fleet : List ℕ) → Request → Asked
asks fleet request = record { fleet = fleet; request = request; register = no_register }

-- or of a fleet with a register.
abbrev pub asks_with : (fleet nodes holders : List ℕ) → Request → Asked
asks_with fleet nodes holders request = record { fleet = fleet; request = request; register = a_register nodes holders }

-- The same, without a register.
abbrev pub bare : Asked → Asked
bare asked = asks asked.fleet asked.request

-- The same, at a profile.
abbrev pub at_profile : ℕ → Asked → Asked
at_profile profile asked = record { fleet = asked.fleet; request = record { threshold = asked.request.threshold; bound = asked.request.bound; profile = profile }; register = asked.register }

-- The count by which a list goes: "the count is the support".
abbrev pub count_of : Asked → List ℕ → ℕ
count_of asked = support asked.fleet

-- "The list .. holds the form of every unordered tree of 1 node up to the bound whose support reaches the threshold", if its profile lists it.
pub record Listed (asked : Asked) (form : List ℕ) : Type 0 where
  pub tree : List ℕ
  pub is_tree : IsTree tree
  pub up_to_bound : length tree ≤ asked.request.bound
  pub enough : asked.request.threshold ≤ count_of asked tree
  pub its_form : IsForm tree form
  pub selects : Selects asked.request.profile (count_of asked) asked.request.threshold form

abbrev pub no_entry : Entry
no_entry = record { form = []; held = 0 }

abbrev pub formAt : List Entry → ℕ → List ℕ
formAt entries i = (get_or entries i no_entry).form

-- The entries are the list of a set: each of its forms once, "lightest first", with its count, and nothing else.
pub record IsListOf (set : Counted) (entries : List Entry) : Type 0 where
  pub lightest_first : (i j : ℕ) → i < j → j < length entries → Lighter (formAt entries i) (formAt entries j)
  pub all_held : (i : ℕ) → i < length entries → set.Holds (formAt entries i)
  pub with_count : (i : ℕ) → i < length entries → (get_or entries i no_entry).held ≡ set.count (formAt entries i)
  pub none_missing : (form : List ℕ) → set.Holds form → (i : ℕ) × (i < length entries) × (formAt entries i ≡ form)

-- The listed forms, each with its count.
abbrev pub listed_forms : Asked → Counted
listed_forms asked = record { Holds = Listed asked; count = count_of asked }

-- "The list for a threshold and a size bound", at a profile.
abbrev pub IsListing : Asked → List Entry → Type 0
IsListing asked entries = IsListOf (listed_forms asked) entries

-- A part of a list "in its order": some entries are left out.
pub data PartOf : List Entry → List Entry → Type 0 where
  nothing : PartOf [] []
  kept : {entry : Entry} {part whole : List Entry} → PartOf part whole → PartOf (entry ∷ part) (entry ∷ whole)
  left_out : {entry : Entry} {part whole : List Entry} → PartOf part whole → PartOf part (entry ∷ whole)
