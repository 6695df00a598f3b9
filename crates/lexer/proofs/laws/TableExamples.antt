-- Worked tables: sheet D's rows, winners, some entries and a match, with its rules in the image's order; and rules for which rows in order are
-- not the rows that a search in depth would find.
use Rattle.std.specs.Prelude.{◌≡◌, refl, get_or}
use mathlib.Core.List.{List, [], ◌∷◌, flat_map}
use Rattle.sheet.specs.Regex.{class, concat}
use Rattle.sheet.specs.Sheet.{Rule}
use Rattle.sheet.specs.SheetD.{sheet_D}
use Rattle.lexer.specs.RuleOrder.{image_sheet}
use Rattle.lexer.specs.Positions.{positions, first_positions}
use Rattle.lexer.specs.Match.{no_match, matched}
use Rattle.lexer.specs.Table.{table_rows, table_entries, table_winners, match_by_rows}
use Rattle.lexer.specs.laws.Computing.{computing_lexer}

abbrev ordered_rules : List Rule
ordered_rules = (image_sheet sheet_D).rules

-- The start, the empty set, then by rising byte the blank, the slash, a first digit, and a digit after it.
D_rows : table_rows (positions ordered_rules) (first_positions ordered_rules) ≡ 16 ∷ 0 ∷ 2 ∷ 1 ∷ 4 ∷ 8 ∷ []
unfolding computing_lexer
D_rows = refl

D_winners : table_winners (positions ordered_rules) (first_positions ordered_rules) ≡ 32 ∷ 32 ∷ 1 ∷ 0 ∷ 2 ∷ 2 ∷ []
unfolding computing_lexer
D_winners = refl

-- The start's entries for a letter, a blank, a slash and a digit; the empty set's; a first digit's for a digit and a slash; a digit's for a digit.
D_entries :
    let entries = table_entries (positions ordered_rules) (first_positions ordered_rules) in
    get_or entries 97 0 ∷ get_or entries 32 0 ∷ get_or entries 47 0 ∷ get_or entries 48 0 ∷ get_or entries 511 0 ∷ get_or entries 1081 0 ∷ get_or entries 1071 0
    ∷ get_or entries 1337 0 ∷ []
    ≡ 1 ∷ 2 ∷ 3 ∷ 4 ∷ 1 ∷ 5 ∷ 1 ∷ 5 ∷ []
unfolding computing_lexer flat_map
D_entries = refl

-- `12 /7` and `h`
D_matches :
    let table = table_entries (positions ordered_rules) (first_positions ordered_rules) in
    let winners = table_winners (positions ordered_rules) (first_positions ordered_rules) in
    (match_by_rows table winners (49 ∷ 50 ∷ 32 ∷ 47 ∷ 55 ∷ []) ≡ matched 2 2) × (match_by_rows table winners (104 ∷ []) ≡ no_match)
unfolding computing_lexer flat_map
D_matches = (refl, refl)

-- `ab` and `c`: the start leads to `a` and `c`, and only then comes what `a` leads to.
abbrev rules_ab_c : List Rule
rules_ab_c = record { action = 1; regex = concat (class 97 97) (class 98 98) } ∷ record { action = 2; regex = class 99 99 } ∷ []

rows-before_depth : table_rows (positions rules_ab_c) (first_positions rules_ab_c) ≡ 8 ∷ 0 ∷ 1 ∷ 4 ∷ 2 ∷ []
unfolding computing_lexer
rows-before_depth = refl
