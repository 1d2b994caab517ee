-- Document 01's example "given whole", and document 02's lists of it: the fleet of specs/Cases at threshold 2, by bound and profile. Proved in
-- proofs/Worked: `WorkedExample` as `worked_example`, and so on.
use Rattle.std.specs.Prelude.{List, [], ◌∷◌, ℕ}
use Rattle.supertrees.specs.Profile.{closed, maximal}
use Rattle.search.specs.Counted.{Entry}
use Rattle.listing.specs.Listing.{IsListing}
use Rattle.cases.specs.Cases.{at_2_and_3, asking}

-- "2 0.101", "2 0.101 1.201", "2 0.101 1.202", "2 0.101 1.202 1.201", "2 0.201", "2 0.202", "end"
unfoldable pub the_lines : List Entry
the_lines = record { form = 101 ∷ []; held = 2 } ∷ record { form = 101 ∷ 1201 ∷ []; held = 2 } ∷ record { form = 101 ∷ 1202 ∷ []; held = 2 }
    ∷ record { form = 101 ∷ 1202 ∷ 1201 ∷ []; held = 2 } ∷ record { form = 201 ∷ []; held = 2 } ∷ record { form = 202 ∷ []; held = 2 } ∷ []

-- The largest of them; "2 0.101 1.202 1.201", "end".
abbrev pub largest : List ℕ
largest = 101 ∷ 1202 ∷ 1201 ∷ []

abbrev pub the_line : List Entry
the_line = record { form = largest; held = 2 } ∷ []

-- The list at 2 and 3 is those lines;
abbrev pub WorkedExample : Type 0
WorkedExample = IsListing at_2_and_3 the_lines

-- the closed list there, and the maximal list, are the one line;
abbrev pub ClosedExample : Type 0
ClosedExample = IsListing (asking 3 closed) the_line

abbrev pub MaximalExample : Type 0
MaximalExample = IsListing (asking 3 maximal) the_line

-- and up to 2 nodes nothing is closed: "supertrees larger than the size bound" count.
abbrev pub NoneClosedExample : Type 0
NoneClosedExample = IsListing (asking 2 closed) []
