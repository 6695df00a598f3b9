-- Word rules, which rule wins of two equally long matches, and the order in which an image numbers a sheet's rules. Only a sheet's rules
-- count, and nothing in an image; what a match is, is said in Words and LongestMatch.
use Rattle.std.specs.Prelude.{◌≡◌, Bool, true, false, not, ◌&&◌, List, ◌∷◌, ℕ, zero, suc, ◌+◌, ◌<◌, eqb, length}
use Rattle.basics.specs.Lists.{filter, partition}
use Rattle.sheet.specs.Regex.{Regex, empty, class, concat, union, star}
use Rattle.sheet.specs.Sheet.{Rule, Sheet}
use Rattle.lexer.specs.Words.{RuleAt}

-- "a word rule (only empty words, sequences and classes with low = high)": of a rule's regex; its action plays no part.
unfoldable pub is_word : Regex → Bool
is_word empty = true
is_word (class low high) = eqb low high
is_word (concat r s) = is_word r && is_word s
is_word (union r s) = false
is_word (star r) = false

unfoldable pub word_rule : Rule → Bool
word_rule r = is_word r.regex

-- How one of two equally long matches is chosen: by document 01's "the lowest rule", which the machine goes by, or by the kinds of rules,
-- as request [4] has it.
pub data Order : Type 0 where
  by_number : Order
  by_kind : Order

-- Of two equally long matches rule j wins over rule k.
pub data WinsOver (rules : List Rule) : Order → ℕ → ℕ → Type 0 where
  lower_rule : {j k : ℕ} → j < k → WinsOver rules by_number j k
  -- "a word rule .. now wins over any other"
  word_over_other : {j k : ℕ} {q r : Rule} → RuleAt rules j q → RuleAt rules k r → word_rule q ≡ true → word_rule r ≡ false
      → WinsOver rules by_kind j k
  -- "and of two of a kind the lower"
  lower_of_a_kind : {j k : ℕ} {q r : Rule} → RuleAt rules j q → RuleAt rules k r → word_rule q ≡ word_rule r → j < k
      → WinsOver rules by_kind j k

-- "Images number the word rules first, each kind in sheet order": the rules in the image's order.
unfoldable pub words_first : List Rule → List Rule
words_first rules = partition word_rule rules

-- The sheet whose rules an image numbers: that with its rules in this order.
unfoldable pub image_sheet : Sheet → Sheet
image_sheet s = record { tokens = s.tokens; rules = words_first s.rules; expression = s.expression }

-- No rule that is no word rule stands above a word rule.
abbrev pub WordsAbove : List Rule → Type 0
WordsAbove rules = (j k : ℕ) (q r : Rule) → RuleAt rules j q → RuleAt rules k r → j < k → word_rule r ≡ true → word_rule q ≡ true

-- Rule j of the rules is r, which passes the test, and it is number i of those that do.
pub data Selected (p : Rule → Bool) : List Rule → ℕ → ℕ → Rule → Type 0 where
  first_selected : {r : Rule} {rs : List Rule} → p r ≡ true → Selected p (r ∷ rs) zero zero r
  after_selected : {q r : Rule} {rs : List Rule} {j i : ℕ} → p q ≡ true → Selected p rs j i r → Selected p (q ∷ rs) (suc j) (suc i) r
  after_other : {q r : Rule} {rs : List Rule} {j i : ℕ} → p q ≡ false → Selected p rs j i r → Selected p (q ∷ rs) (suc j) i r

abbrev pub other_rule : Rule → Bool
other_rule r = not (word_rule r)

-- Rule j of the sheet is rule k of the image, and r is that rule: the word rules come first, and then the others.
pub data ImageNumber (rules : List Rule) (j : ℕ) : ℕ → Rule → Type 0 where
  among_words : {k : ℕ} {r : Rule} → Selected word_rule rules j k r → ImageNumber rules j k r
  after_words : {i : ℕ} {r : Rule} → Selected other_rule rules j i r → ImageNumber rules j (length (filter word_rule rules) + i) r
