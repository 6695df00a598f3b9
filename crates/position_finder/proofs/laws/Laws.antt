-- What a caller learns from the answer to question 7: a rule that it names is one of the rules. What it is to have the empty word is
-- the lexer's to say.
use Rattle.std.specs.Prelude.{◌≡◌, Bool, true, false, cond, List, [], ◌∷◌, ℕ, suc, ◌+◌, ◌≤◌, ◌<◌, length, Option, Some, None}
use Rattle.std.proofs.Common.{sym, ap, ◌∙◌, arith}
use Rattle.std.proofs.Math.Option.{none, some}
use Rattle.sheet.specs.Sheet.{Rule}
use Rattle.lexer.specs.Positions.{nullable, empty_match}
use Rattle.position_finder.specs.Answer.{empty_rule}

-- The first rule with the empty word, from number k on, is one of them.
pub empty_match-below : (rules : List Rule) (k j : ℕ) → empty_match rules k ≡ some j → (k ≤ j) × (j < k + length rules)
unfolding empty_match
empty_match-below [] k j e = let z : ◌≡◌ {A = ℕ} 0 1 = cc in absurd (omega arith)
empty_match-below (r ∷ rules) k j e = go (nullable r.regex) (λ d. empty_match-below rules (suc k) j d) e
  where
    go : (b : Bool) → (empty_match rules (suc k) ≡ some j → (suc k ≤ j) × (j < suc k + length rules))
        → cond b (some k) (empty_match rules (suc k)) ≡ some j → (k ≤ j) × (j < k + length (r ∷ rules))
    go true f d = let z : k ≡ j = cc in (omega arith, omega arith)
    go false f d = let h = f d in (omega arith, omega arith)

pub found_below : (rules : List Rule) (r : Option ℕ) (k : ℕ) → empty_rule r ≡ empty_match rules 0 → r ≡ Some k
    → (empty_match rules 0 ≡ some k) × (k < length rules)
found_below rules r k h e =
    let m : empty_match rules 0 ≡ some k = sym h ∙ ap empty_rule e in
    (m, omega (arith, (empty_match-below rules 0 k m).1))

pub nothing_found : (rules : List Rule) (r : Option ℕ) → empty_rule r ≡ empty_match rules 0 → r ≡ None → empty_match rules 0 ≡ none
nothing_found rules r h e = sym h ∙ ap empty_rule e
