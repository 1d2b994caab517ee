-- The input of the list program: what the key program takes, with a profile (document 02, "Closed and maximal lists") and room for larger numbers.
use Rattle.std.specs.Prelude.{List, ℕ, ◌+◌, ◌*◌}
use Rattle.search.specs.declared.Request.{Request}
use Rattle.header.specs.Header.{byte, most_sheet_bytes, sheet_behind}
use Rattle.opening.specs.Output.{lines_for}

-- Two bytes threshold, the low one first, one byte size bound, one byte profile, then the sheet. A missing byte counts as 0.
abbrev pub header_bytes : ℕ
header_bytes = 4

abbrev pub list_request : List ℕ → Request
list_request input = record { threshold = byte input 0 + 256 * byte input 1; bound = byte input 2; profile = byte input 3 }

abbrev pub list_sheet : List ℕ → List ℕ
list_sheet input = sheet_behind header_bytes input

-- The bytes that are read.
abbrev pub most_list_input_bytes : ℕ
most_list_input_bytes = header_bytes + most_sheet_bytes

-- All that the program writes: for this request and sheet, what the key program would write.
abbrev pub list_output : List ℕ → List ℕ
list_output input = lines_for (list_request input) (list_sheet input)
