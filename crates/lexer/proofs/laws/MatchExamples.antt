-- Worked cases by number: the positions of sheet D's rules as they stand, and one table of longest matches at the front of a text, by D's
-- rules and others. Each row is computed by the walk; one theorem says that every row's match is the right one by the words alone. Cases by
-- kind are elsewhere (OrderExamples).
use Rattle.std.specs.Prelude.{◌≡◌, refl, true, List, [], ◌∷◌, ℕ}
use Rattle.std.proofs.Common.{subst}
use Rattle.std.proofs.Math.Option.{none}
use Rattle.basics.specs.Bits.{bit}
use Rattle.basics.specs.Lists.{All}
use Rattle.sheet.specs.Regex.{empty, class, concat, union, star, class_count}
use Rattle.sheet.specs.Sheet.{Rule}
use Rattle.sheet.specs.SheetD.{sheet_D}
use Rattle.lexer.specs.Positions.{nullable, first, last, follow, part_positions, positions_from, positions, first_from}
use Rattle.lexer.specs.Positions.{first_positions, empty_match}
use Rattle.lexer.specs.Match.{Match, no_match, matched, longer}
use Rattle.lexer.specs.Walk.{has_byte, keep, follows, lower, ended_rule, walk, longest_match}
use Rattle.lexer.proofs.laws.LongestMatchLaws.{Right, match_right}

-- "one or more digits give N, `/` gives S, a blank skips"
abbrev pub rules_of_d : List Rule
rules_of_d = sheet_D.rules

-- "`a`, `ab`, `b` giving A, B, C"
abbrev pub rules_a_ab_b : List Rule
rules_a_ab_b =
    record { action = 1; regex = class 97 97 }
    ∷ record { action = 2; regex = concat (class 97 97) (class 98 98) }
    ∷ record { action = 3; regex = class 98 98 }
    ∷ []

-- `if` and any word of lower-case letters.
abbrev pub rules_if_word : List Rule
rules_if_word =
    record { action = 1; regex = concat (class 105 105) (class 102 102) }
    ∷ record { action = 2; regex = concat (class 97 122) (star (class 97 122)) }
    ∷ []

-- A part that may be empty before one that may not: `-` or nothing, and then a digit.
abbrev pub rules_sign : List Rule
rules_sign = record { action = 1; regex = concat (union empty (class 45 45)) (class 48 57) } ∷ []

-- D's positions and first set, with the rules as they stand in the sheet.
pub positions_of_d : positions rules_of_d
    ≡ record { low = 48; high = 57; rule = 0; last = true; follow = 2 }
    ∷ record { low = 48; high = 57; rule = 0; last = true; follow = 2 }
    ∷ record { low = 47; high = 47; rule = 1; last = true; follow = 0 }
    ∷ record { low = 32; high = 32; rule = 2; last = true; follow = 0 }
    ∷ []
unfolding class_count nullable first last follow part_positions positions_from positions bit
positions_of_d = refl

pub first_of_d : first_positions rules_of_d ≡ 13
unfolding class_count nullable first first_from first_positions
first_of_d = refl

-- Rules, a text, and the match at its front.
pub record Example : Type 0 where
  pub rules : List Rule
  pub text : List ℕ
  pub found : Match

-- `12/7`, `/7`, ` 7` and `h` by D's rules; `ab` by `a`, `ab`, `b`; `if` and `iff`, where the lower rule wins and where the longer
-- match does; `-7`, `7` and `-`, with and without the part that may be empty.
abbrev pub examples : List Example
examples =
    record { rules = rules_of_d; text = 49 ∷ 50 ∷ 47 ∷ 55 ∷ []; found = matched 0 2 }
    ∷ record { rules = rules_of_d; text = 47 ∷ 55 ∷ []; found = matched 1 1 }
    ∷ record { rules = rules_of_d; text = 32 ∷ 55 ∷ []; found = matched 2 1 }
    ∷ record { rules = rules_of_d; text = 104 ∷ []; found = no_match }
    ∷ record { rules = rules_a_ab_b; text = 97 ∷ 98 ∷ []; found = matched 1 2 }
    ∷ record { rules = rules_if_word; text = 105 ∷ 102 ∷ []; found = matched 0 2 }
    ∷ record { rules = rules_if_word; text = 105 ∷ 102 ∷ 102 ∷ []; found = matched 1 3 }
    ∷ record { rules = rules_sign; text = 45 ∷ 55 ∷ []; found = matched 0 2 }
    ∷ record { rules = rules_sign; text = 55 ∷ []; found = matched 0 1 }
    ∷ record { rules = rules_sign; text = 45 ∷ []; found = no_match }
    ∷ []

-- No rule of the row matches the empty word, and the walk gives the row's match.
abbrev Computed : Example → Type 0
Computed r = (empty_match r.rules 0 ≡ none) × (longest_match (positions r.rules) (first_positions r.rules) r.text ≡ r.found)

examples_computed : All Computed examples
unfolding class_count nullable first last follow part_positions positions_from positions first_from first_positions empty_match
    bit longer has_byte keep follows lower ended_rule walk longest_match
examples_computed = (
  (refl, refl),
  (
    (refl, refl),
    (
      (refl, refl),
      (
        (refl, refl),
        (
          (refl, refl),
          ((refl, refl), ((refl, refl), ((refl, refl), ((refl, refl), ((refl, refl), tt))))),
        ),
      ),
    ),
  ),
)

computed_right : (l : List Example) → All Computed l → All (λ r. Right r.rules r.text r.found) l
computed_right [] h = tt
computed_right (r ∷ l) h =
    (subst (Right r.rules r.text) h.0.1 (match_right r.rules h.0.0 r.text), computed_right l h.1)

pub examples_right : All (λ r. Right r.rules r.text r.found) examples
examples_right = computed_right examples examples_computed
