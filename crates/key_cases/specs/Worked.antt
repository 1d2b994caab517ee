-- Document 01, "Given whole, from input `02 03` and the sheet ..": the input and the output, in bytes.
use Rattle.std.specs.Prelude.{List, [], ◌∷◌, ◌++◌, ℕ}
use Rattle.text.specs.Text.{end_word}
use Rattle.paper.specs.Paper.{row, blank_lines, bytes_of}

unfoldable pub worked_input : List ℕ
worked_input = 2 ∷ 3 ∷ 3 ∷ 0 ∷ 101 ∷ 0 ∷ 2 ∷ 201 ∷ 0 ∷ 2 ∷ 45 ∷ 1 ∷ 3 ∷ 1 ∷ 202 ∷ 0 ∷ 3 ∷ 0 ∷ 101 ∷ 0 ∷ 2 ∷ 202 ∷ 0 ∷ 3 ∷ 1 ∷ 201 ∷ 0 ∷ []

-- "2 0.101", "2 0.101 1.201", "2 0.101 1.202", "2 0.101 1.202 1.201", "2 0.201", "2 0.202", "end", each with its line end
unfoldable pub worked_output : List ℕ
worked_output = 50 ∷ 32 ∷ 48 ∷ 46 ∷ 49 ∷ 48 ∷ 49 ∷ 10 ∷ []
    ++ 50 ∷ 32 ∷ 48 ∷ 46 ∷ 49 ∷ 48 ∷ 49 ∷ 32 ∷ 49 ∷ 46 ∷ 50 ∷ 48 ∷ 49 ∷ 10 ∷ []
    ++ 50 ∷ 32 ∷ 48 ∷ 46 ∷ 49 ∷ 48 ∷ 49 ∷ 32 ∷ 49 ∷ 46 ∷ 50 ∷ 48 ∷ 50 ∷ 10 ∷ []
    ++ 50 ∷ 32 ∷ 48 ∷ 46 ∷ 49 ∷ 48 ∷ 49 ∷ 32 ∷ 49 ∷ 46 ∷ 50 ∷ 48 ∷ 50 ∷ 32 ∷ 49 ∷ 46 ∷ 50 ∷ 48 ∷ 49 ∷ 10 ∷ []
    ++ 50 ∷ 32 ∷ 48 ∷ 46 ∷ 50 ∷ 48 ∷ 49 ∷ 10 ∷ []
    ++ 50 ∷ 32 ∷ 48 ∷ 46 ∷ 50 ∷ 48 ∷ 50 ∷ 10 ∷ []
    ++ 101 ∷ 110 ∷ 100 ∷ 10 ∷ []

-- The same list on its page (document 02): " 2 0.101", " 2 0.101   1.201", " 2 0.101   1.202", " 2 0.101   1.202   1.201", " 2 0.201", " 2 0.202", "end",
-- each filled with blanks to 72 columns, and 47 blank lines.
unfoldable pub worked_page : List ℕ
worked_page = bytes_of (
    row (32 ∷ 50 ∷ 32 ∷ 48 ∷ 46 ∷ 49 ∷ 48 ∷ 49 ∷ [])
    ∷ row (32 ∷ 50 ∷ 32 ∷ 48 ∷ 46 ∷ 49 ∷ 48 ∷ 49 ∷ 32 ∷ 32 ∷ 32 ∷ 49 ∷ 46 ∷ 50 ∷ 48 ∷ 49 ∷ [])
    ∷ row (32 ∷ 50 ∷ 32 ∷ 48 ∷ 46 ∷ 49 ∷ 48 ∷ 49 ∷ 32 ∷ 32 ∷ 32 ∷ 49 ∷ 46 ∷ 50 ∷ 48 ∷ 50 ∷ [])
    ∷ row (32 ∷ 50 ∷ 32 ∷ 48 ∷ 46 ∷ 49 ∷ 48 ∷ 49 ∷ 32 ∷ 32 ∷ 32 ∷ 49 ∷ 46 ∷ 50 ∷ 48 ∷ 50 ∷ 32 ∷ 32 ∷ 32 ∷ 49 ∷ 46 ∷ 50 ∷ 48 ∷ 49 ∷ [])
    ∷ row (32 ∷ 50 ∷ 32 ∷ 48 ∷ 46 ∷ 50 ∷ 48 ∷ 49 ∷ [])
    ∷ row (32 ∷ 50 ∷ 32 ∷ 48 ∷ 46 ∷ 50 ∷ 48 ∷ 50 ∷ [])
    ∷ row end_word
    ∷ blank_lines 47
    )
