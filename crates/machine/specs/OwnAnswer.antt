-- "The sheet's own answer. It comes from the sheet's rules and expression and from the text, and from nothing in the image or the
-- run." A relation, step by step as the page has it.
use Rattle.std.specs.Prelude.{◌≡◌, List, [], ◌∷◌, ◌++◌, ℕ, suc, ◌+◌, ◌<◌, length, drop}
use Rattle.sheet.specs.Sheet.{Rule, Sheet}
use Rattle.types.specs.Denotation.{Denotes}
use Rattle.lexer.specs.Words.{RuleAt}
use Rattle.lexer.specs.RuleOrder.{Order, by_number, by_kind}
use Rattle.lexer.specs.LongestMatch.{LongestMatch, NoMatch}
use Rattle.image.specs.Answer.{Answer, answer}

-- "some denoted sequence begins with the tokens so far and then k"
abbrev pub Allowed : Sheet → List ℕ → ℕ → Type 0
Allowed s tokens k = (more : List ℕ) × Denotes s.expression (tokens ++ (k ∷ more))

-- Rule r of the sheet has the action: 0 skips, k + 1 returns token k.
abbrev pub ActionOf : Sheet → ℕ → ℕ → Type 0
ActionOf s r action = (rule : Rule) × RuleAt s.rules r rule × (rule.action ≡ action)

-- From a place p and the tokens so far, the answer, where the order says which rule is picked of those that match equally far. "The
-- answer's place is p, its count the number of tokens so far."
pub data AnswersFrom (order : Order) (s : Sheet) (text : List ℕ) : ℕ → List ℕ → Answer → Type 0 where
  -- "p is the text's length: if the expression denotes the tokens so far, the answer is number 0, else 16."
  accepts : {p : ℕ} {tokens : List ℕ}
      → p ≡ length text → Denotes s.expression tokens → AnswersFrom order s text p tokens (answer 0 p (length tokens))
  ends_early : {p : ℕ} {tokens : List ℕ}
      → p ≡ length text → (Denotes s.expression tokens → ⊥) → AnswersFrom order s text p tokens (answer 16 p (length tokens))
  -- "Otherwise the longest front of the text from p that is a word of any rule is found", and the rule that has it and wins by the order.
  -- "None: 14."
  no_rule : {p : ℕ} {tokens : List ℕ}
      → p < length text → NoMatch s.rules (drop p text) → AnswersFrom order s text p tokens (answer 14 p (length tokens))
  -- "That rule skips: p moves past the front."
  skips : {p : ℕ} {tokens : List ℕ} {a : Answer} (r n : ℕ)
      → p < length text → LongestMatch order s.rules (drop p text) r n → ActionOf s r 0
      → AnswersFrom order s text (p + n) tokens a → AnswersFrom order s text p tokens a
  -- "It returns token k: if some denoted sequence begins with the tokens so far and then k, k joins them and p moves past the
  -- front. If none does: 15."
  takes : {p : ℕ} {tokens : List ℕ} {a : Answer} (r n k : ℕ)
      → p < length text → LongestMatch order s.rules (drop p text) r n → ActionOf s r (suc k) → Allowed s tokens k
      → AnswersFrom order s text (p + n) (tokens ++ (k ∷ [])) a → AnswersFrom order s text p tokens a
  refuses : {p : ℕ} {tokens : List ℕ} (r n k : ℕ)
      → p < length text → LongestMatch order s.rules (drop p text) r n → ActionOf s r (suc k) → (Allowed s tokens k → ⊥)
      → AnswersFrom order s text p tokens (answer 15 p (length tokens))

-- "Kept are a place p, at first 0, and the tokens so far, at first none." "Longest match in demand 3 means this order [by kind], and the
-- sheet's own answer picks its rule by it."
abbrev pub OwnAnswer : Sheet → List ℕ → Answer → Type 0
OwnAnswer s text a = AnswersFrom by_kind s text 0 [] a

-- The own answer where "the lowest rule that has it" is picked, as document 01 had it before request [4].
abbrev pub OwnAnswerByNumber : Sheet → List ℕ → Answer → Type 0
OwnAnswerByNumber s text a = AnswersFrom by_number s text 0 [] a
