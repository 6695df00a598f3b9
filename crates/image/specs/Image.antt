-- An image: what is written for a sheet, as values, as numbers and as bytes ("The image").
use Rattle.std.specs.Prelude.{Bool, cond, List, [], ◌∷◌, ◌++◌, map, ℕ, length, eqb}
use Rattle.sheet.specs.Sheet.{Sheet}
use Rattle.sheet.specs.Spelling.{spell}
use Rattle.normal_form.specs.Productions.{Production, Row}
use Rattle.normal_form.specs.NormalForm.{normal_form}
use Rattle.lexer.specs.RuleOrder.{image_sheet}
use Rattle.lexer.specs.Positions.{Position, positions, first_positions}
use Rattle.image.specs.Fusion.{fused}
use Rattle.image.specs.Numbering.{numbered}

-- A row is a nonterminal's: its productions begin with a rule, and tails hold nonterminals' numbers.
pub record Image : Type 0 where
  pub skips : List Bool
  pub positions : List Position
  pub first : ℕ
  pub rows : List Row

-- The image of a sheet whose rules are numbered as they stand. A rule whose action is 0 skips. The rows are the normal form with dead tails dropped, fused, reached from
-- the start and numbered, in this order.
unfoldable pub plain_image : Sheet → Image
plain_image s = record {
  skips = map (λ r. eqb r.action 0) s.rules;
  positions = positions s.rules;
  first = first_positions s.rules;
  rows = numbered (fused s.rules (normal_form s.expression));
}

-- The image of a sheet. "Images number the word rules first, each kind in sheet order, positions and the order of productions and
-- nonterminals following"
unfoldable pub image_of : Sheet → Image
image_of s = plain_image (image_sheet s)

unfoldable pub flag : Bool → ℕ
flag b = cond b 1 0

-- The numbers of several things, one after the other.
abbrev pub all_numbers : {A : Type 0} → (A → List ℕ) → List A → List ℕ
all_numbers numbers [] = []
all_numbers numbers (a ∷ l) = numbers a ++ all_numbers numbers l

abbrev pub just : ℕ → List ℕ
just n = n ∷ []

abbrev pub flag_number : Bool → List ℕ
flag_number b = flag b ∷ []

-- "low, high, rule, last (0 or 1), follow set"
abbrev pub position_numbers : Position → List ℕ
position_numbers p = p.low ∷ p.high ∷ p.rule ∷ flag p.last ∷ p.follow ∷ []

-- "rule, tail length .., tail"
abbrev pub production_numbers : Production → List ℕ
production_numbers p = p.head ∷ length p.tail ∷ p.tail

-- "its ε flag, production count .. and productions by rising rule"
abbrev pub row_numbers : Row → List ℕ
row_numbers r = flag r.has_epsilon ∷ length r.productions ∷ all_numbers production_numbers r.productions

-- "version 1; R; per rule 1 if it skips, else 0; position count P; per position ..; first set; nonterminal count; per
-- nonterminal .."
unfoldable pub image_numbers : Image → List ℕ
image_numbers i =
    1 ∷ length i.skips ∷ (all_numbers flag_number i.skips
    ++ (length i.positions ∷ (all_numbers position_numbers i.positions
    ++ (i.first ∷ length i.rows ∷ all_numbers row_numbers i.rows))))

-- An image's bytes: "Numbers as above".
unfoldable pub image_bytes : Image → List ℕ
image_bytes i = spell (image_numbers i)
