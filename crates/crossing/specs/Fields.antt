-- How a request crosses the C interface: as the numbers of its fields, in their order.
use Rattle.std.specs.Prelude.{List, ℕ, get_or}
use Rattle.search.specs.declared.Request.{Request}

-- A missing number counts as 0; what follows the last field is not looked at.
abbrev pub request_from : List ℕ → Request
request_from fields = record { threshold = get_or fields 0 0; bound = get_or fields 1 0; profile = get_or fields 2 0 }
