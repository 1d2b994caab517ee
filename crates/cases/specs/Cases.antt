-- Document 01, "Cases at the edge": the proved ones, in one table, each about a call with an output longer than its result; and what document 02 says
-- of a set's bits, of remarks and of profiles. `cases_hold` proves the table.
use Rattle.std.specs.Prelude.{◌≡◌, List, [], ◌∷◌, ◌++◌, ℕ, ◌-◌, length, get_or, drop}
use Rattle.fleet.specs.declared.Answer.TheVariants.{Done}
use Rattle.register.specs.Register.{most_label, entries}
use Rattle.register.specs.RegisterCall.{register_answer, nodes_output, holders_output}
use Rattle.form.specs.FormCall.{form_answer, form_output}
use Rattle.occurrence.specs.declared.Placement.TheVariants.{Placed, Nowhere}
use Rattle.occurrence.specs.PlaceCall.{place_answer, place_output}
use Rattle.occurrence.specs.SupportCall.{support_answer}
use Rattle.supertrees.specs.Profile.{full}
use Rattle.listing.specs.declared.Reply.TheVariants.{Form, End, Refused}
use Rattle.listing.specs.Listing.{Asked, asks}
use Rattle.listing.specs.Calls.{step, outcome, answerTo}

pub data Case : Type 0 where
  form_is : (tree output form : List ℕ) → Case
  placed : (fleet : List ℕ) (vehicle : ℕ) (pattern output tuple : List ℕ) → Case
  not_there : (fleet : List ℕ) (vehicle : ℕ) (pattern output : List ℕ) → Case
  support_is : (fleet pattern : List ℕ) (held : ℕ) → Case
  comes_next : (asked : Asked) (pattern output form : List ℕ) (held : ℕ) → Case
  comes_end : (asked : Asked) (pattern output : List ℕ) → Case
  turned_away : (asked : Asked) (pattern output : List ℕ) (number : ℕ) → Case
  entry_is : (fleet nodes holders : List ℕ) (label count set : ℕ) → Case

-- What a case says of its call: the answer, and the whole output; of a register the entry of one label.
unfoldable pub Holds : Case → Type 0
Holds (form_is tree output form) = (form_answer tree output ≡ Done (length form)) × (form_output tree output ≡ form ++ drop (length form) output)
Holds (placed fleet vehicle pattern output tuple) =
    (place_answer fleet vehicle pattern output ≡ Placed (length tuple)) × (place_output fleet vehicle pattern output ≡ tuple ++ drop (length tuple) output)
Holds (not_there fleet vehicle pattern output) = (place_answer fleet vehicle pattern output ≡ Nowhere) × (place_output fleet vehicle pattern output ≡ output)
Holds (support_is fleet pattern held) = support_answer fleet pattern ≡ Done held
Holds (comes_next asked pattern output form held) = answerTo (step asked pattern output) ≡ outcome (Form (length form) held) (form ++ drop (length form) output)
Holds (comes_end asked pattern output) = answerTo (step asked pattern output) ≡ outcome End output
Holds (turned_away asked pattern output number) = answerTo (step asked pattern output) ≡ outcome (Refused number) output
Holds (entry_is fleet nodes holders label count set) =
    (register_answer fleet nodes holders ≡ Done most_label) × (get_or (nodes_output fleet nodes holders) (label - 1) 0 ≡ count) × (get_or (holders_output fleet nodes holders) (label - 1) 0 ≡ set)

-- The fleet under "The list".
unfoldable pub the_fleet : List ℕ
the_fleet = 101 ∷ 1201 ∷ 2301 ∷ 1202 ∷ 101 ∷ 1202 ∷ 1201 ∷ []

-- "In the fleet above at 2 and 3".
unfoldable pub at_2_and_3 : Asked
at_2_and_3 = asks the_fleet (record { threshold = 2; bound = 3; profile = full })

-- The same at other profiles, and with another bound.
unfoldable pub asking : (bound profile : ℕ) → Asked
unfolding the_fleet
asking bound profile = asks the_fleet (record { threshold = 2; bound = bound; profile = profile })

-- A fleet with remarks, at 2 and 3.
unfoldable pub remarked : Asked
remarked = asks (101 ∷ 1601 ∷ 1201 ∷ 101 ∷ 1201 ∷ 1601 ∷ []) (record { threshold = 2; bound = 3; profile = full })

-- An output of seven.
unfoldable pub the_output : List ℕ
the_output = 7 ∷ 7 ∷ 7 ∷ 7 ∷ 7 ∷ 7 ∷ 7 ∷ []

-- An output of a thousand sevens.
unfoldable pub thousand : List ℕ
unfolding entries
thousand = entries (λ _. 7) 1000 1

unfoldable pub table : List Case
table = form_is (101 ∷ 1201 ∷ 2301 ∷ 1202 ∷ []) the_output (101 ∷ 1202 ∷ 1201 ∷ 2301 ∷ [])
    ∷ form_is (101 ∷ 1201 ∷ 1201 ∷ 2301 ∷ []) the_output (101 ∷ 1201 ∷ 2301 ∷ 1201 ∷ [])
    ∷ placed (101 ∷ 1201 ∷ 2302 ∷ 2301 ∷ 1201 ∷ 2302 ∷ []) 1 (101 ∷ 1201 ∷ 2302 ∷ 1201 ∷ 2301 ∷ []) the_output (1 ∷ 5 ∷ 6 ∷ 2 ∷ 4 ∷ [])
    ∷ placed (101 ∷ 1201 ∷ 2302 ∷ 1201 ∷ 2302 ∷ 2301 ∷ []) 1 (101 ∷ 1201 ∷ 2302 ∷ 1201 ∷ 2301 ∷ []) the_output (1 ∷ 2 ∷ 3 ∷ 4 ∷ 6 ∷ [])
    ∷ not_there (101 ∷ 1201 ∷ []) 1 (101 ∷ 1201 ∷ 1201 ∷ []) the_output
    ∷ not_there (101 ∷ 1201 ∷ 2301 ∷ []) 1 (101 ∷ 1301 ∷ []) the_output
    ∷ placed (101 ∷ 1201 ∷ 2301 ∷ []) 1 (201 ∷ 1301 ∷ []) the_output (2 ∷ 3 ∷ [])
    ∷ support_is (101 ∷ 1201 ∷ 1201 ∷ 1201 ∷ []) (201 ∷ []) 1
    ∷ placed (101 ∷ 1201 ∷ 1201 ∷ 1201 ∷ []) 1 (201 ∷ []) the_output (4 ∷ [])
    ∷ comes_next at_2_and_3 (101 ∷ 1202 ∷ 1201 ∷ []) the_output (201 ∷ []) 2
    ∷ comes_next at_2_and_3 (150 ∷ []) the_output (201 ∷ []) 2
    ∷ comes_end at_2_and_3 (202 ∷ []) the_output
    ∷ entry_is the_fleet thousand thousand 301 1 1
    ∷ entry_is (101 ∷ 101 ∷ 1201 ∷ 1201 ∷ []) thousand thousand 201 2 2
    ∷ entry_is the_fleet thousand thousand 101 2 3
    ∷ entry_is the_fleet thousand thousand 999 0 0
    ∷ placed (101 ∷ 1601 ∷ 1201 ∷ []) 1 (101 ∷ 1201 ∷ []) the_output (1 ∷ 3 ∷ [])
    ∷ placed (101 ∷ 1201 ∷ 1601 ∷ 1201 ∷ []) 1 (101 ∷ 1201 ∷ 1201 ∷ []) the_output (1 ∷ 4 ∷ 2 ∷ [])
    ∷ not_there (101 ∷ 1601 ∷ []) 1 (101 ∷ 1601 ∷ []) the_output
    ∷ not_there (101 ∷ 1601 ∷ []) 1 (601 ∷ []) the_output
    ∷ support_is (101 ∷ 1600 ∷ 101 ∷ 1699 ∷ []) (600 ∷ []) 0
    ∷ support_is (101 ∷ 1600 ∷ 101 ∷ 1699 ∷ []) (101 ∷ []) 2
    ∷ comes_next remarked (101 ∷ 1601 ∷ []) the_output (201 ∷ []) 2
    ∷ comes_end remarked (601 ∷ []) the_output
    ∷ entry_is (101 ∷ 1601 ∷ 1201 ∷ 101 ∷ 1201 ∷ 1601 ∷ []) thousand thousand 601 2 3
    ∷ turned_away (asking 3 3) (101 ∷ []) the_output 19
    ∷ turned_away (asking 17 3) (101 ∷ []) the_output 12
    ∷ turned_away (asking 3 3) [] the_output 19
    ∷ []

pub data AllHold : List Case → Type 0 where
  no_case : AllHold []
  and_holds : {c : Case} {cs : List Case} → Holds c → AllHold cs → AllHold (c ∷ cs)
