-- Which regexes have the empty word, and which rule question 7 turns down: the test `nullable` and the search `empty_match`
-- against the words themselves. Positions are not spoken of here.
use Rattle.std.specs.Prelude.{◌≡◌, refl, Bool, true, false, ◌||◌, ◌&&◌, cond, ◌↔◌, ℕ, zero, suc, ◌+◌, ◌<◌}
use Rattle.std.proofs.Common.{sym, ap, ap₂, ◌∙◌, subst, true≢false, ⊎_elim, arith}
use Rattle.std.proofs.Math.Bool as B
use Rattle.std.proofs.lemmas.Bool.{false≢true}
use mathlib.Core.List.{List, [], ◌∷◌, ◌++◌, cons≢nil}
use Rattle.std.proofs.Math.Option.{Option, none, some}
use Rattle.basics.proofs.laws.Order.{lt-or-le}
use Rattle.basics.proofs.laws.Truth.{and-true-first, and-true-second}
use Rattle.sheet.specs.Regex.{Regex, empty, class, concat, union, star}
use Rattle.sheet.specs.Sheet.{Rule}
use Rattle.lexer.specs.Words.{Word, empty_word, one_byte, one_then_other, of_first, of_second, star_none, star_more, RuleAt}
use Rattle.lexer.specs.Words.{first_rule, later_rule, WordOf, FirstEmptyRule, NoEmptyRule}
use Rattle.lexer.specs.Positions.{nullable, empty_match}

union_empty_word : (r s : Regex) (a b : Bool) → nullable r ≡ a → nullable s ≡ b → (a || b) ≡ true → (nullable r ≡ true → Word r [])
    → (nullable s ≡ true → Word s []) → Word (union r s) []
union_empty_word r s true b e f g p q = of_first (p e)
union_empty_word r s false b e f g p q = of_second (q (f ∙ g))

pub nullable_word : (r : Regex) → nullable r ≡ true → Word r []
unfolding nullable
nullable_word empty e = empty_word
nullable_word (class low high) e = absurd (false≢true e)
nullable_word (concat r s) e =
    one_then_other (nullable_word r (and-true-first (nullable r) (nullable s) e))
    (nullable_word s (and-true-second (nullable r) (nullable s) e)) refl
nullable_word (union r s) e = union_empty_word r s (nullable r) (nullable s) refl refl e (nullable_word r) (nullable_word s)
nullable_word (star r) e = star_none

-- Both parts of the empty list are empty.
empty_front : (u v : List ℕ) → u ++ v ≡ [] → u ≡ []
empty_front [] v e = refl
empty_front (b ∷ u) v e = absurd (cons≢nil e)

empty_rest : (u v : List ℕ) → u ++ v ≡ [] → v ≡ []
empty_rest [] v e = e
empty_rest (b ∷ u) v e = absurd (cons≢nil e)

pub word_nullable : {r : Regex} {w : List ℕ} → Word r w → w ≡ [] → nullable r ≡ true
unfolding nullable
word_nullable empty_word e = refl
word_nullable (one_byte l h) e = absurd (cons≢nil e)
word_nullable (one_then_other {u = u} {v = v} p q d) e =
    ap₂ ◌&&◌ (word_nullable p (empty_front u v (sym d ∙ e))) (word_nullable q (empty_rest u v (sym d ∙ e)))
word_nullable (of_first {r = r} {s = s} p) e = ap (λ (x : Bool). x || nullable s) (word_nullable p e)
word_nullable (of_second {r = r} {s = s} p) e = ap (λ (x : Bool). nullable r || x) (word_nullable p e) ∙ B.or-true (nullable r)
word_nullable star_none e = refl
word_nullable (star_more p q d) e = refl

-- The test is right.
pub nullable_right : (r : Regex) → (nullable r ≡ true) ↔ Word r []
nullable_right r = (nullable_word r, λ h. word_nullable h refl)

-- What the search over rules from k on is to find: no rule matches the empty word, or the rule found does and none before it.
abbrev pub FirstEmpty : List Rule → ℕ → Option ℕ → Type 0
FirstEmpty rules k none = (j : ℕ) → WordOf rules j [] → ⊥
FirstEmpty rules k (some n) = (i : ℕ) × (n ≡ k + i) × WordOf rules i [] × ((j : ℕ) → j < i → WordOf rules j [] → ⊥)

no_rules : (j : ℕ) → WordOf [] j [] → ⊥
no_rules j h = go h.1
  where
    go : {r : Rule} → RuleAt [] j r → ⊥
    go t = elim t [ ]

-- Words of the rules after the first are words of all, one number up, and the other way round.
pub word_later : {s : Rule} {rs : List Rule} {j : ℕ} {w : List ℕ} → WordOf rs j w → WordOf (s ∷ rs) (suc j) w
word_later h = (h.0, later_rule h.1, h.2)

pub word_cases : {s : Rule} {rs : List Rule} {j : ℕ} {w : List ℕ} (C : ℕ → Type 0) → (Word s.regex w → C zero)
    → ((i : ℕ) → WordOf rs i w → C (suc i)) → WordOf (s ∷ rs) j w → C j
word_cases {s} {rs} {w = w} C f g h = go h.1 h.2
  where
    go : {r : Rule} {i : ℕ} → RuleAt (s ∷ rs) i r → Word r.regex w → C i
    go first_rule x = f x
    go (later_rule {r = r} {k = k} t) x = g k (r, t, x)

not_empty : (r : Regex) → nullable r ≡ false → Word r [] → ⊥
not_empty r e h = true≢false (sym (word_nullable h refl) ∙ e)

first_empty_later : (s : Rule) (rs : List Rule) (k : ℕ) (o : Option ℕ) → nullable s.regex ≡ false → FirstEmpty rs (suc k) o
    → FirstEmpty (s ∷ rs) k o
first_empty_later s rs k none e h = λ j. word_cases (λ i. ⊥) (not_empty s.regex e) h
first_empty_later s rs k (some n) e h = (
  suc h.0,
  omega arith,
  word_later h.2,
  λ j l x. word_cases (λ i. i < suc h.0 → ⊥) (λ y z. not_empty s.regex e y) (λ i y z. h.3 i (omega arith) y) x l,
)

pub first_empty : (rules : List Rule) (k : ℕ) → FirstEmpty rules k (empty_match rules k)
unfolding empty_match
first_empty [] k = no_rules
first_empty (s ∷ rs) k = go (nullable s.regex) refl (first_empty rs (suc k))
  where
    go : (b : Bool) → nullable s.regex ≡ b → FirstEmpty rs (suc k) (empty_match rs (suc k))
        → FirstEmpty (s ∷ rs) k (cond b (some k) (empty_match rs (suc k)))
    go true e h = (0, omega arith, (s, first_rule, nullable_word s.regex e), λ j l x. omega arith)
    go false e h = first_empty_later s rs k (empty_match rs (suc k)) e h

-- Question 7: no rule is found just where no rule matches the empty word, and a rule that is found is the first that does.
pub none_empty : (rules : List Rule) → (empty_match rules 0 ≡ none) ↔ NoEmptyRule rules
none_empty rules = (λ e. subst (FirstEmpty rules 0) e (first_empty rules 0), go (empty_match rules 0) (first_empty rules 0))
  where
    go : (o : Option ℕ) → FirstEmpty rules 0 o → NoEmptyRule rules → o ≡ none
    go none h f = refl
    go (some n) h f = absurd (f h.0 h.2)

-- There is one first rule at most.
pub first_empty_one : {rules : List Rule} {k m : ℕ} → FirstEmptyRule rules k → FirstEmptyRule rules m → k ≡ m
first_empty_one {rules} {k} {m} x y = ⊎_elim (λ l. absurd (y.first k l x.matches))
    (λ l. ⊎_elim (λ h. absurd (x.first m h y.matches)) (λ h. omega arith) (lt-or-le m k)) (lt-or-le k m)

-- What is found is the first rule that has the empty word, and it is found.
pub first_empty_iff : (rules : List Rule) (k : ℕ) → (empty_match rules 0 ≡ some k) ↔ FirstEmptyRule rules k
first_empty_iff rules k = (λ e. found k (subst (FirstEmpty rules 0) e (first_empty rules 0)), go (empty_match rules 0) (first_empty rules 0))
  where
    found : (n : ℕ) → FirstEmpty rules 0 (some n) → FirstEmptyRule rules n
    found n h =
        let same : n ≡ h.0 = omega arith in
        subst (FirstEmptyRule rules) (sym same) (record { matches = h.2; first = h.3 })

    go : (o : Option ℕ) → FirstEmpty rules 0 o → FirstEmptyRule rules k → o ≡ some k
    go none h x = absurd (h k x.matches)
    go (some n) h x = ap some (first_empty_one (found n h) x)

pub first-empty_rule : (rules : List Rule) (k : ℕ) → empty_match rules 0 ≡ some k
    → WordOf rules k [] × ((j : ℕ) → j < k → WordOf rules j [] → ⊥)
first-empty_rule rules k e = let x = (first_empty_iff rules k).0 e in (x.matches, x.first)
