-- What an image's start unfolds to: the rule sequences that spell the token sequences which the expression denotes.
use Rattle.std.specs.Prelude.{◌≡◌, List, [], ◌∷◌, ℕ, suc}
use Rattle.sheet.specs.Sheet.{Rule, Sheet}
use Rattle.types.specs.Denotation.{Denotes}
use Rattle.normal_form.specs.Productions.{Row}
use Rattle.normal_form.specs.Unfolds.{Unfolds}
use Rattle.lexer.specs.Words.{RuleAt}
use Rattle.lexer.specs.RuleOrder.{image_sheet}

-- The start unfolds to the rule sequence.
abbrev pub StartUnfolds : List Row → List ℕ → Type 0
StartUnfolds rows rules = Unfolds rows (0 ∷ []) rules

-- A rule sequence spells a token sequence, "each token spelled by any rule that returns it": a rule returns token t if its action is t + 1.
pub data SpellsTokens (rules : List Rule) : List ℕ → List ℕ → Type 0 where
  no_tokens : SpellsTokens rules [] []
  token_more : {k t : ℕ} {ks ts : List ℕ} {rule : Rule} → RuleAt rules k rule → rule.action ≡ suc t → SpellsTokens rules ks ts
      → SpellsTokens rules (k ∷ ks) (t ∷ ts)

-- Demand 2: "the rule sequences that spell a token sequence which the expression denotes", by the numbers that the image gives to the rules.
abbrev pub DenotedRules : Sheet → List ℕ → Type 0
DenotedRules s ks = (ts : List ℕ) × Denotes s.expression ts × SpellsTokens (image_sheet s).rules ks ts
