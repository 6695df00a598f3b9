-- The limits that document 01 sets on a sheet, each named once. A limit is the largest number that is allowed.
use Rattle.std.specs.Prelude.{ℕ}

-- "The sheet": token count 1 to 24, rule count 1 to 32.
abbrev pub most_tokens : ℕ
most_tokens = 24

abbrev pub most_rules : ℕ
most_rules = 32

-- "At most 64 byte classes and 256 regex nodes over all rules, 64 expression nodes, 4,096 bytes."
abbrev pub most_classes : ℕ
most_classes = 64

abbrev pub most_regex_nodes : ℕ
most_regex_nodes = 256

abbrev pub most_expression_nodes : ℕ
most_expression_nodes = 64

abbrev pub most_sheet_bytes : ℕ
most_sheet_bytes = 4096
