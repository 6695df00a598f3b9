-- A run of tokens over pending nodes, by the steps that the machine's runs go by; and the sheet's own answer on tokens alone.
use Rattle.std.specs.Prelude.{List, [], ◌∷◌, ◌++◌, ℕ}
use Rattle.std.proofs.Math.Option.{Option, some, none}
use Rattle.sheet.specs.Expression.{Expression}
use Rattle.types.specs.Denotation.{Denotes}
use Rattle.normal_form.specs.Productions.{Row, Taking}
use Rattle.normal_form.proofs.laws.Pending.{AllNullable, TokenStep}
use Rattle.recogniser.specs.Descends.{Descent, left, stuck}

-- What is pending after a token, whichever node took it.
pub data StepsTo (M : ℕ → Row) (t : ℕ) : List ℕ → Option (List ℕ) → Type 0 where
  to_next : {β : List ℕ} {x : Taking} → TokenStep M t β (some x) → StepsTo M t β (some x.pending)
  to_none : {β : List ℕ} → TokenStep M t β none → StepsTo M t β none

-- Over all tokens: accepted with nothing left, or stuck at the tokens that are left; stuck at none is an end that comes too early.
pub data TokenRun (M : ℕ → Row) : List ℕ → List ℕ → Descent → Type 0 where
  run_accepts : {β : List ℕ} → AllNullable M β → TokenRun M β [] (left [])
  run_ends_early : {β : List ℕ} → (AllNullable M β → ⊥) → TokenRun M β [] (stuck [])
  run_takes : {t : ℕ} {β next ts : List ℕ} {r : Descent} → StepsTo M t β (some next) → TokenRun M next ts r → TokenRun M β (t ∷ ts) r
  run_refuses : {t : ℕ} {β ts : List ℕ} → StepsTo M t β none → TokenRun M β (t ∷ ts) (stuck (t ∷ ts))

-- The sheet's own answer on tokens, with those before.
pub data TokensAnswer (e : Expression) : List ℕ → List ℕ → Descent → Type 0 where
  denoted : {before : List ℕ} → Denotes e before → TokensAnswer e before [] (left [])
  not_denoted : {before : List ℕ} → (Denotes e before → ⊥) → TokensAnswer e before [] (stuck [])
  allowed : {before ts : List ℕ} {t : ℕ} {r : Descent} → ((more : List ℕ) × Denotes e (before ++ (t ∷ more)))
      → TokensAnswer e (before ++ (t ∷ [])) ts r → TokensAnswer e before (t ∷ ts) r
  not_allowed : {before ts : List ℕ} {t : ℕ} → (((more : List ℕ) × Denotes e (before ++ (t ∷ more))) → ⊥)
      → TokensAnswer e before (t ∷ ts) (stuck (t ∷ ts))

-- What a descent from the start comes to: only if nothing is left of the tokens are they accepted.
abbrev pub comes_to : Descent → Descent
comes_to (left []) = left []
comes_to (left (t ∷ ts)) = stuck (t ∷ ts)
comes_to (stuck ts) = stuck ts
