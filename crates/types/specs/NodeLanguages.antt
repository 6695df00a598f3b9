-- The language of each node of an expression in its place: its free variables stand for the languages of their own fixed points. Types
-- are not spoken of here.
use Rattle.std.specs.Prelude.{List, [], ◌∷◌, ◌++◌, ℕ, get_or}
use Rattle.sheet.specs.Expression.{Expression, epsilon, bottom, token, sequence, alternative, fixed_point, variable, repetition}
use Rattle.types.specs.Denotation.{Language, denotation}
use Rattle.types.specs.Languages.{no_words, Environment}

-- The languages of all nodes of g, in sheet order.
unfoldable pub languages_from : Expression → Environment → List Language
languages_from epsilon γ = denotation epsilon γ ∷ []
languages_from bottom γ = denotation bottom γ ∷ []
languages_from (token k) γ = denotation (token k) γ ∷ []
languages_from (sequence g h) γ = denotation (sequence g h) γ ∷ (languages_from g γ ++ languages_from h γ)
languages_from (alternative g h) γ = denotation (alternative g h) γ ∷ (languages_from g γ ++ languages_from h γ)
languages_from (fixed_point g) γ = denotation (fixed_point g) γ ∷ languages_from g (denotation (fixed_point g) γ ∷ γ)
languages_from (variable n) γ = denotation (variable n) γ ∷ []
languages_from (repetition g) γ = denotation (repetition g) γ ∷ languages_from g γ

-- L(n), for the node n of a sheet's expression.
unfoldable pub language_of : Expression → ℕ → Language
language_of e n = get_or (languages_from e []) n no_words
