-- Document 001's recogniser: Figure 6, line by line, and the lines for repetition. A relation: from a node and the tokens s,
-- what the descent leaves of s, or where it fails. FIRST and NULL are asked of the languages, so that "a branch that denotes nothing is not
-- entered" is part of it; those of the least types are the same (demands: `first_exactly`, `null_exactly`).
use Rattle.std.specs.Prelude.{◌≡◌, Bool, List, [], ◌∷◌, ◌⊎◌, ℕ, ◌-◌, get_or, length}
use Rattle.sheet.specs.Expression.{Expression}
use Rattle.types.specs.Denotation.{Denotes}
use Rattle.types.specs.Nodes.{Node, epsilon_node, bottom_node, token_node, sequence_node, alternative_node, fixed_point_node, variable_node, repetition_node, nodes, node_at}
use Rattle.types.specs.NodeLanguages.{language_of}
use Rattle.types.specs.Languages.{HasWord, Begins}

-- The tokens that are left when the descent comes back; or fail, with the tokens at which it failed.
pub data Descent : Type 0 where
  left : List ℕ → Descent
  stuck : List ℕ → Descent

-- c ∈ FIRST(n), n.NULL
abbrev pub CanBegin : Expression → ℕ → ℕ → Type 0
CanBegin e n c = Begins (language_of e n) c

abbrev pub Nullable : Expression → ℕ → Type 0
Nullable e n = language_of e n []

-- "when c ∈ τ.FIRST or τ.NULL ∧ c ∉ (τ ∨ τ').FIRST"
abbrev pub Enters : Expression → ℕ → ℕ → ℕ → Type 0
Enters e g g' c = CanBegin e g c ⊎ (Nullable e g × (CanBegin e g c → ⊥) × (CanBegin e g' c → ⊥))

pub data DescendsAt (e : Expression) : Node → List ℕ → Descent → Type 0 where
  -- P(⊥) s = fail
  bottom_fails : {s : List ℕ} → DescendsAt e bottom_node s (stuck s)
  -- P(ε) s = s
  epsilon_leaves : {s : List ℕ} → DescendsAt e epsilon_node s (left s)
  -- P(c) (c' :: s) = if c = c' then s else fail; and fail at []
  token_taken : {c c' : ℕ} {s : List ℕ} → c ≡ c' → DescendsAt e (token_node c) (c' ∷ s) (left s)
  token_fails : {c c' : ℕ} {s : List ℕ} → (c ≡ c' → ⊥) → DescendsAt e (token_node c) (c' ∷ s) (stuck (c' ∷ s))
  token_missing : {c : ℕ} → DescendsAt e (token_node c) [] (stuck [])
  -- P(g · g') s = let s' = P(g) s in P(g') s'
  sequence_through : {g g' : ℕ} {s s' : List ℕ} {o : Descent} → DescendsAt e (node_at (nodes e) g) s (left s')
      → DescendsAt e (node_at (nodes e) g') s' o → DescendsAt e (sequence_node g g') s o
  sequence_stuck : {g g' : ℕ} {s s' : List ℕ} → DescendsAt e (node_at (nodes e) g) s (stuck s')
      → DescendsAt e (sequence_node g g') s (stuck s')
  -- P(g ∨ g') [] = [] when (τ ∨ τ').NULL, fail otherwise
  alternative_leaves : {g g' : ℕ} → Nullable e g ⊎ Nullable e g' → DescendsAt e (alternative_node g g') [] (left [])
  alternative_missing : {g g' : ℕ} → (Nullable e g → ⊥) → (Nullable e g' → ⊥) → DescendsAt e (alternative_node g g') [] (stuck [])
  -- P(g ∨ g') (c :: s) = P(g) (c :: s) or P(g') (c :: s), whichever is entered, fail otherwise
  into_first : {g g' c : ℕ} {s : List ℕ} {o : Descent}
      → Enters e g g' c → DescendsAt e (node_at (nodes e) g) (c ∷ s) o → DescendsAt e (alternative_node g g') (c ∷ s) o
  into_second : {g g' c : ℕ} {s : List ℕ} {o : Descent}
      → Enters e g' g c → DescendsAt e (node_at (nodes e) g') (c ∷ s) o → DescendsAt e (alternative_node g g') (c ∷ s) o
  into_neither : {g g' c : ℕ} {s : List ℕ}
      → (Enters e g g' c → ⊥) → (Enters e g' g c → ⊥) → DescendsAt e (alternative_node g g') (c ∷ s) (stuck (c ∷ s))
  -- P(μx.g) s = fix(λF. P(g) with F for x) s, and P(x) s is that F
  into_body : {g : ℕ} {s : List ℕ} {o : Descent} → DescendsAt e (node_at (nodes e) g) s o → DescendsAt e (fixed_point_node g) s o
  into_fixed_point : {f : ℕ} {guarded : Bool} {s : List ℕ} {o : Descent}
      → DescendsAt e (node_at (nodes e) f) s o → DescendsAt e (variable_node f guarded) s o
  -- A repetition is μβ.(ε ∨ g·β).
  repetition_leaves : {g self : ℕ} → DescendsAt e (repetition_node g self) [] (left [])
  repetition_done : {g self c : ℕ} {s : List ℕ} → (CanBegin e g c → ⊥) → DescendsAt e (repetition_node g self) (c ∷ s) (left (c ∷ s))
  repetition_through : {g self c : ℕ} {s s' : List ℕ} {o : Descent} → CanBegin e g c → DescendsAt e (node_at (nodes e) g) (c ∷ s) (left s')
      → DescendsAt e (node_at (nodes e) self) s' o → DescendsAt e (repetition_node g self) (c ∷ s) o
  repetition_stuck : {g self c : ℕ} {s s' : List ℕ} → CanBegin e g c → DescendsAt e (node_at (nodes e) g) (c ∷ s) (stuck s')
      → DescendsAt e (repetition_node g self) (c ∷ s) (stuck s')

-- The descent from a node of the expression.
abbrev pub Descends : Expression → ℕ → List ℕ → Descent → Type 0
Descends e n s o = DescendsAt e (node_at (nodes e) n) s o

-- The recogniser on a whole sequence: an expression that denotes nothing is not entered.
pub data DescendsFromStart (e : Expression) (s : List ℕ) : Descent → Type 0 where
  entered : {o : Descent} → HasWord (Denotes e) → Descends e 0 s o → DescendsFromStart e s o
  not_entered : (HasWord (Denotes e) → ⊥) → DescendsFromStart e s (stuck s)

-- The tokens that a descent leaves, or fails at.
abbrev pub rest_of : Descent → List ℕ
rest_of (left rest) = rest
rest_of (stuck rest) = rest

-- What a descent over a text's tokens says of the text: 0 if it leaves nothing, 15 if it leaves a token or is stuck at one, 16 if it is
-- stuck at the end.
abbrev pub number_for : Descent → ℕ
number_for (left []) = 0
number_for (left (t ∷ rest)) = 15
number_for (stuck []) = 16
number_for (stuck (t ∷ rest)) = 15

-- Where the first of the tokens starts that it leaves; where it leaves none, the text's end. Given are the starts of all tokens.
abbrev pub place_for : List ℕ → Descent → ℕ → ℕ
place_for starts o end = get_or starts (length starts - length (rest_of o)) end
