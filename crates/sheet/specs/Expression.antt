-- The one expression of a sheet: document 01's forms, which are the context-free expressions of Figure 2 of the flap paper with
-- variables counted instead of named, and repetition. What an expression denotes is defined with its types, not here.
use Rattle.std.specs.Prelude.{ℕ, ◌+◌}

-- Each form's tag in a sheet stands beside it.
pub data Expression : Type 0 where
  -- 0: ε
  epsilon : Expression
  -- 1: ⊥
  bottom : Expression
  -- 2: a token, by its number
  token : ℕ → Expression
  -- 3, 4
  sequence : Expression → Expression → Expression
  alternative : Expression → Expression → Expression
  -- 5: a fixed point, of its body
  fixed_point : Expression → Expression
  -- 6: a variable, with how many open fixed points lie between it and its own; 0 is the innermost
  variable : ℕ → Expression
  -- 7: repetition, of one part; it is no fixed point in a variable's count
  repetition : Expression → Expression

-- How many nodes an expression has. A node is named by its place in prefix order, from 0.
unfoldable pub size : Expression → ℕ
size epsilon = 1
size bottom = 1
size (token k) = 1
size (sequence g h) = 1 + (size g + size h)
size (alternative g h) = 1 + (size g + size h)
size (fixed_point g) = 1 + size g
size (variable n) = 1
size (repetition g) = 1 + size g
