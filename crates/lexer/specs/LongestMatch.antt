-- What the lexer is to find: the longest front of a text that is a word of any rule, and the rule that wins among those that have it.
-- Only the rules and the text count; how the walk over an image finds it is not said here.
use Rattle.std.specs.Prelude.{◌≡◌, true, false, List, ℕ, ◌≤◌, ◌<◌, length, take}
use Rattle.sheet.specs.Sheet.{Rule}
use Rattle.lexer.specs.Words.{Word, RuleAt, WordOf}
use Rattle.lexer.specs.RuleOrder.{word_rule, Order, WinsOver}

-- The first n bytes are the longest front of the text that is a word of any rule, and k is the rule that has it and wins by the order.
pub record LongestMatch (order : Order) (rules : List Rule) (text : List ℕ) (k n : ℕ) : Type 0 where
  pub within : n ≤ length text
  pub matches : WordOf rules k (take n text)
  pub longest : (j m : ℕ) → n < m → m ≤ length text → WordOf rules j (take m text) → ⊥
  pub wins : (j : ℕ) → WinsOver rules order j k → WordOf rules j (take n text) → ⊥

-- No front of the text is a word of any rule.
abbrev pub NoMatch : List Rule → List ℕ → Type 0
NoMatch rules text = (j m : ℕ) → m ≤ length text → WordOf rules j (take m text) → ⊥

-- "a non_word rule stood above a word rule and both matched equally far": rule j above rule k, at the front of n bytes.
pub record NonWordAbove (rules : List Rule) (text : List ℕ) (j k n : ℕ) : Type 0 where
  pub above : j < k
  pub non_word : (q : Rule) × RuleAt rules j q × (word_rule q ≡ false) × Word q.regex (take n text)
  pub word : (r : Rule) × RuleAt rules k r × (word_rule r ≡ true) × Word r.regex (take n text)
