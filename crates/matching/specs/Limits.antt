-- Document 01, "When the desk says no", number 13: "16 where there is none".
use Rattle.std.specs.Prelude.{ℕ}

-- The most nodes of a pattern. In code it is `PATTERN_NODES`; `stated_pattern_nodes` ties the two.
abbrev pub most_nodes_of_a_pattern : ℕ
most_nodes_of_a_pattern = 16
