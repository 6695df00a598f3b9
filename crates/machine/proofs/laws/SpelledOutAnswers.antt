-- A sheet with repetitions and the same sheet with every repetition spelled out as μβ.(ε ∨ g·β) have the same own answer for every text:
-- the own answer asks of an expression only what it denotes. Whether the longer sheet keeps the limits is not asked here.
use Rattle.std.specs.Prelude.{List, ◌∷◌, ◌++◌, ◌↔◌, ℕ}
use Rattle.sheet.specs.Expression.{Expression}
use Rattle.sheet.specs.Sheet.{Sheet}
use Rattle.types.specs.Denotation.{Denotes}
use Rattle.types.specs.SpelledOut.{spelled_out, spelled_out_sheet}
use Rattle.types.proofs.laws.SpelledOutDenotation.{spelled_out_denotes}
use Rattle.image.specs.Answer.{Answer}
use Rattle.lexer.specs.RuleOrder.{by_kind}
use Rattle.machine.specs.OwnAnswer.{AnswersFrom, accepts, ends_early, no_rule, skips, takes, refuses, OwnAnswer}

-- The sheet with another expression.
abbrev with_other : Sheet → Expression → Sheet
with_other s e = record { tokens = s.tokens; rules = s.rules; expression = e }

-- Expressions that denote the same sequences give the same answers.
module _ (s : Sheet) (e : Expression) (same : (tokens : List ℕ) → Denotes s.expression tokens ↔ Denotes e tokens) (text : List ℕ) where
  same_answers : {p : ℕ} {tokens : List ℕ} {a : Answer} → AnswersFrom by_kind s text p tokens a → AnswersFrom by_kind (with_other s e) text p tokens a
  same_answers (accepts {tokens = tokens} h d) = accepts h ((same tokens).0 d)
  same_answers (ends_early {tokens = tokens} h n) = ends_early h (λ d. n ((same tokens).1 d))
  same_answers (no_rule h n) = no_rule h n
  same_answers (skips r n h m act x) = skips r n h m act (same_answers x)
  same_answers (takes {tokens = tokens} r n k h m act d x) =
      takes r n k h m act (d.0, (same (tokens ++ (k ∷ d.0))).0 d.1) (same_answers x)
  same_answers (refuses {tokens = tokens} r n k h m act d) =
      refuses r n k h m act (λ x. d (x.0, (same (tokens ++ (k ∷ x.0))).1 x.1))

pub spelled_out-own-answer : (s : Sheet) (text : List ℕ) (a : Answer)
    → OwnAnswer s text a ↔ OwnAnswer (spelled_out_sheet s) text a
spelled_out-own-answer s text a =
    let e = s.expression in
    let denotes = spelled_out_denotes e in (
      same_answers s (spelled_out e) denotes text,
      same_answers (spelled_out_sheet s) e (λ tokens. ((denotes tokens).1, (denotes tokens).0)) text,
    )
