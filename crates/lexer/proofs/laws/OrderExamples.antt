-- Worked cases of word rules: which regexes are words, the image's order of rules, and one table of matches by kind at the front of a text.
-- Each row is computed by the walk over the rules in the image's order; one theorem says that every row's match is the right one by the
-- words alone.
use Rattle.std.specs.Prelude.{◌≡◌, refl, true, false, List, [], ◌∷◌, map, ℕ}
use Rattle.basics.specs.Lists.{All}
use Rattle.basics.proofs.laws.Members.{◌&◌}
use Rattle.sheet.specs.Regex.{Regex, empty, class, concat, union, star}
use Rattle.sheet.specs.Sheet.{Rule}
use Rattle.lexer.specs.RuleOrder.{is_word, by_kind, words_first, first_selected, after_other, ImageNumber, among_words, after_words}
use Rattle.lexer.specs.LongestMatch.{LongestMatch}
use Rattle.lexer.specs.Positions.{positions, first_positions}
use Rattle.lexer.specs.Match.{matched}
use Rattle.lexer.specs.Walk.{longest_match}
use Rattle.lexer.proofs.laws.LongestMatchLaws.{matched_right}
use Rattle.lexer.proofs.laws.OrderedMatches.{lowest_is_best}
use Rattle.lexer.specs.laws.Computing.{computing_lexer}

-- The word `if`, `a`, and a name of lower-case letters.
abbrev if_word : Regex
if_word = concat (class 105 105) (class 102 102)

abbrev a_word : Regex
a_word = class 97 97

abbrev name : Regex
name = concat (class 97 122) (star (class 97 122))

-- Words: `if`, `a`, the empty word, the empty word and then `a`. Not words: a name, a class of two bytes, an alternative of `a` and `a`, a star,
-- and a sequence with one of these in it.
pub which_are_words : map is_word (if_word ∷ a_word ∷ empty ∷ concat empty a_word ∷ name ∷ class 97 98 ∷ union a_word a_word ∷ star a_word
    ∷ concat a_word (class 97 98) ∷ concat (union a_word a_word) a_word ∷ [])
    ≡ true ∷ true ∷ true ∷ true ∷ false ∷ false ∷ false ∷ false ∷ false ∷ false ∷ []
unfolding computing_lexer
which_are_words = refl

abbrev rule : ℕ → Regex → Rule
rule action regex = record { action = action; regex = regex }

-- Words and others in turn: in the image the words come first, and each kind stands as in the sheet.
pub order_in_turn : words_first (rule 1 name ∷ rule 2 if_word ∷ rule 0 (class 97 98) ∷ rule 3 a_word ∷ rule 4 (star a_word) ∷ rule 0 if_word ∷ [])
    ≡ rule 2 if_word ∷ rule 3 a_word ∷ rule 0 if_word ∷ rule 1 name ∷ rule 0 (class 97 98) ∷ rule 4 (star a_word) ∷ []
unfolding computing_lexer
order_in_turn = refl

-- Rules, a text, and the sheet's rule that is picked at its front, with the bytes that it takes.
record Example : Type 0 where
  rules : List Rule
  text : List ℕ
  picked : ℕ
  bytes : ℕ

-- A name above `if`: `if` and `iff`. `if` twice: `if`. A name above a word that skips: `a`. A name above an alternative of equal words, and
-- above a class of two bytes: `a`. A class of two bytes above a name: `a`.
abbrev examples : List Example
examples =
    record { rules = rule 1 name ∷ rule 2 if_word ∷ []; text = 105 ∷ 102 ∷ []; picked = 1; bytes = 2 }
    ∷ record { rules = rule 1 name ∷ rule 2 if_word ∷ []; text = 105 ∷ 102 ∷ 102 ∷ []; picked = 0; bytes = 3 }
    ∷ record { rules = rule 1 if_word ∷ rule 2 if_word ∷ []; text = 105 ∷ 102 ∷ []; picked = 0; bytes = 2 }
    ∷ record { rules = rule 1 name ∷ rule 0 a_word ∷ []; text = 97 ∷ []; picked = 1; bytes = 1 }
    ∷ record { rules = rule 1 name ∷ rule 2 (union a_word a_word) ∷ []; text = 97 ∷ []; picked = 0; bytes = 1 }
    ∷ record { rules = rule 1 name ∷ rule 2 (class 97 98) ∷ []; text = 97 ∷ []; picked = 0; bytes = 1 }
    ∷ record { rules = rule 2 (class 97 98) ∷ rule 1 name ∷ []; text = 97 ∷ []; picked = 0; bytes = 1 }
    ∷ []

-- The walk over the rules in the image's order finds the image's number of the rule that is picked.
abbrev Computed : Example → Type 0
Computed x =
    (k : ℕ) × (r : Rule) × ImageNumber x.rules x.picked k r
    × (longest_match (positions (words_first x.rules)) (first_positions (words_first x.rules)) x.text ≡ matched k x.bytes)

examples_computed : All Computed examples
unfolding computing_lexer
examples_computed =
    (0, rule 2 if_word, among_words (after_other refl (first_selected refl)), refl)
    & (1, rule 1 name, after_words (first_selected refl), refl)
    & (0, rule 1 if_word, among_words (first_selected refl), refl)
    & (0, rule 0 a_word, among_words (after_other refl (first_selected refl)), refl)
    & (0, rule 1 name, after_words (first_selected refl), refl)
    & (0, rule 1 name, after_words (first_selected refl), refl)
    & (0, rule 2 (class 97 98), after_words (first_selected refl), refl)
    & tt

computed_right : (l : List Example) → All Computed l → All (λ x. LongestMatch by_kind x.rules x.text x.picked x.bytes) l
computed_right [] h = tt
computed_right (x ∷ l) h =
    let c = h.0 in (
      (lowest_is_best x.rules c.2 x.text x.bytes).0 (matched_right (words_first x.rules) x.text c.0 x.bytes c.3).0,
      computed_right l h.1,
    )

pub examples_picked : All (λ x. LongestMatch by_kind x.rules x.text x.picked x.bytes) examples
examples_picked = computed_right examples examples_computed
