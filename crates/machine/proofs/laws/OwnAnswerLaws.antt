-- The sheet's own answer is one: two answers to a text are equal. So "exactly the sheet's own answer" has its full force.
use Rattle.std.specs.Prelude.{◌≡◌, refl, List, [], ◌∷◌, ◌++◌, ℕ, ◌+◌}
use Rattle.std.proofs.Common.{sym, ap, subst, ◌∙◌, arith}
use Rattle.sheet.specs.Sheet.{Sheet}
use Rattle.lexer.specs.Words.{RuleAt}
use Rattle.lexer.specs.RuleOrder.{by_kind, Order, by_number}
use Rattle.lexer.specs.LongestMatch.{LongestMatch}
use Rattle.lexer.proofs.laws.RuleOrderLaws.{rule_one}
use Rattle.lexer.proofs.laws.LongestMatchLaws.{longest_one, longest_not-none}
use Rattle.image.specs.Answer.{Answer}
use Rattle.machine.specs.OwnAnswer.{Allowed, ActionOf, AnswersFrom, accepts, ends_early, no_rule, skips, takes, refuses, OwnAnswer, OwnAnswerByNumber}

module _ (order : Order) (s : Sheet) (text : List ℕ) where
  -- One longest match, and so one action.
  pub same_action : {rest : List ℕ} {k n a j m b : ℕ} → LongestMatch order s.rules rest k n → ActionOf s k a
      → LongestMatch order s.rules rest j m → ActionOf s j b → (n ≡ m) × (a ≡ b)
  same_action {rest} {k} {n} {a} {j} {m} {b} x u y v =
      let e = longest_one x y in
      let w : RuleAt s.rules j u.0 = subst (λ i. RuleAt s.rules i u.0) e.0 u.1 in
      (e.1, sym u.2 ∙ ap (λ r. r.action) (rule_one w v.1) ∙ v.2)

  pub answers_one : {p : ℕ} {tokens : List ℕ} {a b : Answer} → AnswersFrom order s text p tokens a → AnswersFrom order s text p tokens b → a ≡ b
  answers_one (accepts e d) (accepts f c) = refl
  answers_one (accepts e d) (ends_early f c) = absurd (c d)
  answers_one (accepts e d) (no_rule l c) = absurd (omega arith)
  answers_one (accepts e d) (skips k n l x u r) = absurd (omega arith)
  answers_one (accepts e d) (takes k n t l x u c r) = absurd (omega arith)
  answers_one (accepts e d) (refuses k n t l x u c) = absurd (omega arith)
  answers_one (ends_early e d) (accepts f c) = absurd (d c)
  answers_one (ends_early e d) (ends_early f c) = refl
  answers_one (ends_early e d) (no_rule l c) = absurd (omega arith)
  answers_one (ends_early e d) (skips k n l x u r) = absurd (omega arith)
  answers_one (ends_early e d) (takes k n t l x u c r) = absurd (omega arith)
  answers_one (ends_early e d) (refuses k n t l x u c) = absurd (omega arith)
  answers_one (no_rule l c) (accepts f d) = absurd (omega arith)
  answers_one (no_rule l c) (ends_early f d) = absurd (omega arith)
  answers_one (no_rule l c) (no_rule m d) = refl
  answers_one (no_rule l c) (skips k n m x u r) = absurd (longest_not-none x c)
  answers_one (no_rule l c) (takes k n t m x u d r) = absurd (longest_not-none x c)
  answers_one (no_rule l c) (refuses k n t m x u d) = absurd (longest_not-none x c)
  answers_one (skips k n l x u r) (accepts f d) = absurd (omega arith)
  answers_one (skips k n l x u r) (ends_early f d) = absurd (omega arith)
  answers_one (skips k n l x u r) (no_rule m c) = absurd (longest_not-none x c)
  answers_one (skips {p = p} {tokens = tokens} k n l x u r) (skips {a = b} j m i y v q) =
      answers_one r (subst (λ z. AnswersFrom order s text (p + z) tokens b) (same_action y v x u).0 q)
  answers_one (skips k n l x u r) (takes j m t i y v c q) = absurd (let e = (same_action x u y v).1 in omega arith)
  answers_one (skips k n l x u r) (refuses j m t i y v c) = absurd (let e = (same_action x u y v).1 in omega arith)
  answers_one (takes k n t l x u c r) (accepts f d) = absurd (omega arith)
  answers_one (takes k n t l x u c r) (ends_early f d) = absurd (omega arith)
  answers_one (takes k n t l x u c r) (no_rule m d) = absurd (longest_not-none x d)
  answers_one (takes k n t l x u c r) (skips j m i y v q) = absurd (let e = (same_action x u y v).1 in omega arith)
  answers_one (takes {p = p} {tokens = tokens} k n t l x u c r) (takes {a = b} j m t' i y v d q) =
      let e = same_action y v x u in
      let f : t' ≡ t = (let g = e.1 in omega arith) in
      answers_one r (subst (λ z. AnswersFrom order s text (p + z) (tokens ++ (t ∷ [])) b) e.0
      (subst (λ z. AnswersFrom order s text (p + m) (tokens ++ (z ∷ [])) b) f q))
  answers_one (takes {tokens = tokens} k n t l x u c r) (refuses j m t' i y v d) =
      absurd (d (subst (Allowed s tokens) (let g = (same_action x u y v).1 in let f : t ≡ t' = omega arith in f) c))
  answers_one (refuses k n t l x u c) (accepts f d) = absurd (omega arith)
  answers_one (refuses k n t l x u c) (ends_early f d) = absurd (omega arith)
  answers_one (refuses k n t l x u c) (no_rule m d) = absurd (longest_not-none x d)
  answers_one (refuses k n t l x u c) (skips j m i y v q) = absurd (let e = (same_action x u y v).1 in omega arith)
  answers_one (refuses {tokens = tokens} k n t l x u c) (takes j m t' i y v d q) =
      absurd (c (subst (Allowed s tokens) (let g = (same_action x u y v).1 in let f : t' ≡ t = omega arith in f) d))
  answers_one (refuses k n t l x u c) (refuses j m t' i y v d) = refl

pub own-answer_one : (s : Sheet) (text : List ℕ) {a b : Answer} → OwnAnswer s text a → OwnAnswer s text b → a ≡ b
own-answer_one s text = answers_one by_kind s text

pub by_number_one : (s : Sheet) (text : List ℕ) {a b : Answer} → OwnAnswerByNumber s text a → OwnAnswerByNumber s text b → a ≡ b
by_number_one s text = answers_one by_number s text
