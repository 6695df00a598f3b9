-- The worked cases of word rules: a name pattern above a word, two words of equal text, a word that skips, rules that are no word rules, the
-- order in which an image numbers rules, and question 7, which does not ask for it. That every row holds is shown elsewhere.
use Rattle.std.specs.Prelude.{List, [], ◌∷◌, ◌++◌, ℕ}
use Rattle.image.specs.Write.{refused, written}
use Rattle.image.specs.Answer.{answer}
use Rattle.cases.specs.Cases.{Case, writes, reads, changes}

-- Two tokens and two rules, and an expression that is one token.
abbrev two_rules : List ℕ → List ℕ → ℕ → List ℕ
two_rules first second k = 1 ∷ 2 ∷ 2 ∷ (first ++ (second ++ (2 ∷ k ∷ [])))

-- A name, which is one lower-case letter or more, and the word `if`, as rules with an action.
abbrev name : ℕ → List ℕ
name action = action ∷ 2 ∷ 1 ∷ 97 ∷ 122 ∷ 4 ∷ 1 ∷ 97 ∷ 122 ∷ []

abbrev word_if : ℕ → List ℕ
word_if action = action ∷ 2 ∷ 1 ∷ 105 ∷ 105 ∷ 1 ∷ 102 ∷ 102 ∷ []

-- The texts `if` and `iffy`.
abbrev if_text : List ℕ
if_text = 105 ∷ 102 ∷ []

abbrev iffy_text : List ℕ
iffy_text = if_text ++ (102 ∷ 121 ∷ [])

-- The name above the word, with the word's token and with the name's; and their images, in which the word is rule 0.
abbrev pub word_below : List ℕ
word_below = two_rules (name 1) (word_if 2) 1

abbrev pub name_above : List ℕ
name_above = two_rules (name 1) (word_if 2) 0

abbrev rules_of_image : ℕ → List ℕ
rules_of_image skips =
    1 ∷ 2 ∷ skips ∷ 0 ∷ 4
    ∷ 105 ∷ 105 ∷ 0 ∷ 0 ∷ 2
    ∷ 102 ∷ 102 ∷ 0 ∷ 1 ∷ 0
    ∷ 97 ∷ 122 ∷ 1 ∷ 1 ∷ 8
    ∷ 97 ∷ 122 ∷ 1 ∷ 1 ∷ 8
    ∷ 5 ∷ []

abbrev pub image_word_below : List ℕ
image_word_below = rules_of_image 0 ++ (1 ∷ 0 ∷ 1 ∷ 0 ∷ 0 ∷ [])

abbrev pub image_name_above : List ℕ
image_name_above = rules_of_image 0 ++ (1 ∷ 0 ∷ 1 ∷ 1 ∷ 0 ∷ [])

-- The word `if` twice, with the second one's token and with the first one's.
abbrev pub second_if : List ℕ
second_if = two_rules (word_if 1) (word_if 2) 1

abbrev pub first_if : List ℕ
first_if = two_rules (word_if 1) (word_if 2) 0

abbrev rules_of_two_words : List ℕ
rules_of_two_words =
    1 ∷ 2 ∷ 0 ∷ 0 ∷ 4
    ∷ 105 ∷ 105 ∷ 0 ∷ 0 ∷ 2
    ∷ 102 ∷ 102 ∷ 0 ∷ 1 ∷ 0
    ∷ 105 ∷ 105 ∷ 1 ∷ 0 ∷ 8
    ∷ 102 ∷ 102 ∷ 1 ∷ 1 ∷ 0
    ∷ 5 ∷ []

abbrev pub image_second_if : List ℕ
image_second_if = rules_of_two_words ++ (1 ∷ 0 ∷ 1 ∷ 1 ∷ 0 ∷ [])

abbrev pub image_first_if : List ℕ
image_first_if = rules_of_two_words ++ (1 ∷ 0 ∷ 1 ∷ 0 ∷ 0 ∷ [])

-- The name above the word `if`, which skips, with the name's token.
abbrev pub skipped_if : List ℕ
skipped_if = two_rules (name 1) (word_if 0) 0

abbrev pub image_skipped_if : List ℕ
image_skipped_if = rules_of_image 1 ++ (1 ∷ 0 ∷ 1 ∷ 1 ∷ 0 ∷ [])

-- The name above an alternative of `a` and `a`, above the class `a` to `b`, and above the empty word and then `a`; with the lower rule's token.
abbrev pub equal_words : List ℕ
equal_words = two_rules (name 1) (2 ∷ 3 ∷ 1 ∷ 97 ∷ 97 ∷ 1 ∷ 97 ∷ 97 ∷ []) 1

abbrev pub wide_class : List ℕ
wide_class = two_rules (name 1) (2 ∷ 1 ∷ 97 ∷ 98 ∷ []) 1

abbrev pub empty_then_a : List ℕ
empty_then_a = two_rules (name 1) (2 ∷ 2 ∷ 0 ∷ 1 ∷ 97 ∷ 97 ∷ []) 1

-- The name's positions come first where the other rule is no word rule.
abbrev name_positions : List ℕ
name_positions = 97 ∷ 122 ∷ 0 ∷ 1 ∷ 2 ∷ 97 ∷ 122 ∷ 0 ∷ 1 ∷ 2 ∷ []

abbrev pub image_equal_words : List ℕ
image_equal_words =
    1 ∷ 2 ∷ 0 ∷ 0 ∷ 4 ∷ (name_positions ++ (97 ∷ 97 ∷ 1 ∷ 1 ∷ 0 ∷ 97 ∷ 97 ∷ 1 ∷ 1 ∷ 0 ∷ 13 ∷ 1 ∷ 0 ∷ 1 ∷ 1 ∷ 0 ∷ []))

abbrev pub image_wide_class : List ℕ
image_wide_class = 1 ∷ 2 ∷ 0 ∷ 0 ∷ 3 ∷ (name_positions ++ (97 ∷ 98 ∷ 1 ∷ 1 ∷ 0 ∷ 5 ∷ 1 ∷ 0 ∷ 1 ∷ 1 ∷ 0 ∷ []))

abbrev pub image_empty_then_a : List ℕ
image_empty_then_a =
    1 ∷ 2 ∷ 0 ∷ 0 ∷ 3 ∷ 97 ∷ 97 ∷ 0 ∷ 1 ∷ 0 ∷ 97 ∷ 122 ∷ 1 ∷ 1 ∷ 4 ∷ 97 ∷ 122 ∷ 1 ∷ 1 ∷ 4 ∷ 3 ∷ 1 ∷ 0 ∷ 1 ∷ 0 ∷ 0 ∷ []

-- Four tokens and four rules: `a` to `c`, `x`, `d` to `f`, `y`; and an expression of two alternatives, each of two tokens. In the image the
-- rules are `x`, `y`, `a` to `c`, `d` to `f`; the productions by rule, and the nonterminals that they meet, follow.
abbrev pub in_turn : List ℕ
in_turn =
    1 ∷ 4 ∷ 4 ∷ 1 ∷ 1 ∷ 97 ∷ 99 ∷ 2 ∷ 1 ∷ 120 ∷ 120 ∷ 3 ∷ 1 ∷ 100 ∷ 102 ∷ 4 ∷ 1 ∷ 121 ∷ 121
    ∷ 4 ∷ 3 ∷ 2 ∷ 0 ∷ 2 ∷ 2 ∷ 3 ∷ 2 ∷ 3 ∷ 2 ∷ 1 ∷ []

abbrev pub image_in_turn : List ℕ
image_in_turn =
    1 ∷ 4 ∷ 0 ∷ 0 ∷ 0 ∷ 0 ∷ 4
    ∷ 120 ∷ 120 ∷ 0 ∷ 1 ∷ 0
    ∷ 121 ∷ 121 ∷ 1 ∷ 1 ∷ 0
    ∷ 97 ∷ 99 ∷ 2 ∷ 1 ∷ 0
    ∷ 100 ∷ 102 ∷ 3 ∷ 1 ∷ 0
    ∷ 15 ∷ 3
    ∷ 0 ∷ 2 ∷ 1 ∷ 1 ∷ 1 ∷ 2 ∷ 1 ∷ 2
    ∷ 0 ∷ 1 ∷ 0 ∷ 0
    ∷ 0 ∷ 1 ∷ 3 ∷ 0
    ∷ []

-- A star, and below it the empty word, which is a word rule: both match the empty word, and the star is the first.
abbrev pub both_empty : List ℕ
both_empty = two_rules (1 ∷ 4 ∷ 1 ∷ 97 ∷ 97 ∷ []) (2 ∷ 0 ∷ []) 0

unfoldable pub word_cases : List Case
word_cases =
    -- a name above the word `if`
    writes word_below (written image_word_below)
    ∷ reads word_below if_text (answer 0 2 1)
    ∷ changes word_below if_text (answer 15 0 0)
    ∷ reads word_below iffy_text (answer 15 0 0)
    ∷ reads name_above if_text (answer 15 0 0)
    ∷ reads name_above iffy_text (answer 0 4 1)
    -- two words of equal text: the lower wins
    ∷ reads first_if if_text (answer 0 2 1)
    ∷ reads second_if if_text (answer 15 0 0)
    -- a skip word against a pattern
    ∷ writes skipped_if (written image_skipped_if)
    ∷ reads skipped_if if_text (answer 16 2 0)
    ∷ reads skipped_if iffy_text (answer 0 4 1)
    -- no word rules: an alternative, even of two equal words, and a class of two bytes; and a word rule with an empty word in it
    ∷ writes equal_words (written image_equal_words)
    ∷ reads equal_words (97 ∷ []) (answer 15 0 0)
    ∷ writes wide_class (written image_wide_class)
    ∷ reads wide_class (97 ∷ []) (answer 15 0 0)
    ∷ writes empty_then_a (written image_empty_then_a)
    ∷ reads empty_then_a (97 ∷ []) (answer 0 1 1)
    -- words and others in turn: the order is kept within each kind
    ∷ writes in_turn (written image_in_turn)
    -- question 7 is put in sheet order
    ∷ writes both_empty (refused 7 3)
    ∷ []
