-- Names for languages and what is said of them, as the recogniser's definition and the proofs speak of them. What an expression denotes
-- is said without them.
use Rattle.std.specs.Prelude.{◌≡◌, List, [], ◌∷◌, ◌⊎◌, ℕ}
use Rattle.types.specs.Denotation.{Language, followed_by, least_fixed_point}

-- ∅
abbrev pub no_words : Language
no_words w = ⊥

-- L ∪ M
abbrev pub either : Language → Language → Language
either L M w = L w ⊎ M w

-- ε ∨ g·β, where g has the language L and β the language M
abbrev pub none_or_more : Language → Language → Language
none_or_more L M = either (λ w. w ≡ []) (followed_by L M)

-- μβ.(ε ∨ g·β), β new: any number of words of L, one after the other.
abbrev pub any_number_of : Language → Language
any_number_of L = least_fixed_point (none_or_more L)

-- γ
abbrev pub Environment : Type 1
Environment = List Language

-- L has a word.
abbrev pub HasWord : Language → Type 0
HasWord L = (w : List ℕ) × L w

-- The token c begins a word of L.
abbrev pub Begins : Language → ℕ → Type 0
Begins L c = (v : List ℕ) × L (c ∷ v)
