-- The ranges of a sheet's positions and sets: how many positions there are, that sets lie below 2 to that number, that rules never
-- fall and are below the number of rules, that bounds of classes are bytes. They are the ranges that an image asks for.
use Rattle.std.specs.Prelude.{List, [], ◌∷◌, ℕ, ◌≤◌, ◌<◌, ◌^◌, length}
use Rattle.basics.specs.Lists.{All}
use Rattle.sheet.specs.Limits.{most_classes}
use Rattle.lexer.specs.Positions.{Position}

-- "and never falling": each is at least the one before it, and the first at least `low`.
abbrev pub NeverFalling : ℕ → List Position → Type 0
NeverFalling low [] = Unit
NeverFalling low (p ∷ ps) = (low ≤ p.rule) × NeverFalling p.rule ps

-- "low, high": bytes, low at most high.
abbrev pub ByteClass : Position → Type 0
ByteClass p = (p.low ≤ p.high) × (p.high ≤ 255)

-- All of it, for a list of positions and a first set over so many rules: what an image says of them.
pub record PositionsInRange (rules : ℕ) (ps : List Position) (first : ℕ) : Type 0 where
  pub count_least : 1 ≤ length ps
  pub count_most : length ps ≤ most_classes
  pub byte_classes : All ByteClass ps
  pub rules_under : All (λ p. p.rule < rules) ps
  pub rules_rising : NeverFalling 0 ps
  pub follows_under : All (λ p. p.follow < 2 ^ length ps) ps
  pub first_under : first < 2 ^ length ps
