-- The image's order of rules: a rule of the sheet and its number in the image are the same rule, and the lower number in the image is the
-- rule of the sheet that wins by kind. Where no other rule stands above a word rule, the order is the sheet's own. Texts are not spoken of.
use Rattle.std.specs.Prelude.{◌≡◌, Bool, not, ◌⊎◌, ℕ, zero, suc, ◌+◌, ◌<◌, length}
use Rattle.std.proofs.Math.Path.{refl, subst}
use Rattle.std.proofs.Common.{sym, ap, ap₂, ◌∙◌, true≢false, inl, inr, arith}
use Rattle.std.proofs.Math.Bool.{true, false}
use mathlib.Core.List.{List, [], ◌∷◌, ◌++◌}
use Rattle.std.proofs.Math.Logic.{⊎_elim}
use Rattle.basics.specs.Lists.{All, filter, partition}
use Rattle.basics.proofs.laws.Order.{compare_cases}
use Rattle.basics.proofs.laws.Partitions.{filter_one, filter_other, all_pass, none_pass}
use Rattle.sheet.specs.Sheet.{Rule}
use Rattle.lexer.specs.Words.{RuleAt, first_rule, later_rule}
use Rattle.lexer.specs.RuleOrder.{word_rule, Order, by_number, by_kind, WinsOver, lower_rule, word_over_other, lower_of_a_kind}
use Rattle.lexer.specs.RuleOrder.{words_first, WordsAbove, Selected, first_selected, after_selected, after_other}
use Rattle.lexer.specs.RuleOrder.{other_rule, ImageNumber, among_words, after_words}

-- A rule's number names one rule.
pub rule_one : {rs : List Rule} {k : ℕ} {r q : Rule} → RuleAt rs k r → RuleAt rs k q → r ≡ q
rule_one first_rule first_rule = refl
rule_one (later_rule a) (later_rule b) = rule_one a b

-- ---- rules in lists that are put together

at_left : {rs : List Rule} {k : ℕ} {r : Rule} → RuleAt rs k r → (more : List Rule) → RuleAt (rs ++ more) k r
at_left first_rule more = first_rule
at_left (later_rule a) more = later_rule (at_left a more)

at_right : (rs : List Rule) {more : List Rule} {k : ℕ} {r : Rule} → RuleAt more k r → RuleAt (rs ++ more) (length rs + k) r
at_right [] {more} {k} {r} a = subst (λ (i : ℕ). RuleAt more i r) (omega arith) a
at_right (q ∷ rs) {more} {k} {r} a =
    subst (λ (i : ℕ). RuleAt (q ∷ (rs ++ more)) i r) (omega arith) (later_rule {s = q} (at_right rs a))

at-either : (rs more : List Rule) {k : ℕ} {r : Rule} → RuleAt (rs ++ more) k r
    → RuleAt rs k r ⊎ ((i : ℕ) × (k ≡ length rs + i) × RuleAt more i r)
at-either [] more {k} a = inr (k, omega arith, a)
at-either (q ∷ rs) more first_rule = inl first_rule
at-either (q ∷ rs) more (later_rule a) =
    ⊎_elim (λ b. inl (later_rule b)) (λ b. inr (b.0, omega (arith, b.1), b.2)) (at-either rs more a)

-- ---- the rules that pass a test

module _ (p : Rule → Bool) where
  selected_passes : {rs : List Rule} {j i : ℕ} {r : Rule} → Selected p rs j i r → p r ≡ true
  selected_passes (first_selected e) = e
  selected_passes (after_selected e s) = selected_passes s
  selected_passes (after_other e s) = selected_passes s

  selected_rule : {rs : List Rule} {j i : ℕ} {r : Rule} → Selected p rs j i r → RuleAt rs j r
  selected_rule (first_selected e) = first_rule
  selected_rule (after_selected e s) = later_rule (selected_rule s)
  selected_rule (after_other e s) = later_rule (selected_rule s)

  selected_number : {rs : List Rule} {j i : ℕ} {r : Rule} → Selected p rs j i r → RuleAt (filter p rs) i r
  selected_number {i = i} {r = r} (first_selected {rs = rs} e) = rw (filter_one p r rs e) first_rule
  selected_number {r = r} (after_selected {q = q} {rs = rs} e s) = rw (filter_one p q rs e) (later_rule (selected_number s))
  selected_number {r = r} (after_other {q = q} {rs = rs} e s) = rw (filter_other p q rs e) (selected_number s)

  selected_below : {rs : List Rule} {j i : ℕ} {r : Rule} → Selected p rs j i r → i < length (filter p rs)
  selected_below (first_selected {r = r} {rs = rs} e) = rw (filter_one p r rs e) (omega arith)
  selected_below (after_selected {q = q} {rs = rs} e s) = let l = selected_below s in rw (filter_one p q rs e) (omega arith)
  selected_below (after_other {q = q} {rs = rs} e s) = rw (filter_other p q rs e) (selected_below s)

  -- Every rule that passes is selected, and nothing else is.
  selected_next : (q : Rule) {rs : List Rule} {j : ℕ} {r : Rule} → (i : ℕ) × Selected p rs j i r → (i : ℕ) × Selected p (q ∷ rs) (suc j) i r
  selected_next q {rs} {j} {r} h = go (p q) refl
    where
      go : (b : Bool) → p q ≡ b → (i : ℕ) × Selected p (q ∷ rs) (suc j) i r
      go true e = (suc h.0, after_selected e h.1)
      go false e = (h.0, after_other e h.1)

  selected_of : {rs : List Rule} {j : ℕ} {r : Rule} → RuleAt rs j r → p r ≡ true → (i : ℕ) × Selected p rs j i r
  selected_of first_rule e = (0, first_selected e)
  selected_of (later_rule {s = q} a) e = selected_next q (selected_of a e)

  of_selected_here : (q : Rule) (rs : List Rule) {r : Rule} → ((i : ℕ) → RuleAt (filter p rs) i r → (j : ℕ) × Selected p rs j i r)
      → p q ≡ true → (i : ℕ) → RuleAt (q ∷ filter p rs) i r → (j : ℕ) × Selected p (q ∷ rs) j i r
  of_selected_here q rs f e zero first_rule = (0, first_selected e)
  of_selected_here q rs f e (suc i) (later_rule b) = let h = f i b in (suc h.0, after_selected e h.1)

  of_selected : (rs : List Rule) {i : ℕ} {r : Rule} → RuleAt (filter p rs) i r → (j : ℕ) × Selected p rs j i r
  unfolding filter
  of_selected [] a = elim a [ ]
  of_selected (q ∷ rs) {i} {r} a = go (p q) refl (λ i b. of_selected rs b) a
    where
      go : (b : Bool) → p q ≡ b → ((i : ℕ) → RuleAt (filter p rs) i r → (j : ℕ) × Selected p rs j i r)
          → RuleAt (elim b [ true ↦ q ∷ filter p rs | false ↦ filter p rs ]) i r → (j : ℕ) × Selected p (q ∷ rs) j i r
      go true e f a = of_selected_here q rs f e i a
      go false e f a = let h = f i a in (suc h.0, after_other e h.1)

  -- The order is kept.
  selected_order : {rs : List Rule} {j i k m : ℕ} {q r : Rule} → Selected p rs j i q → Selected p rs k m r → j < k → i < m
  selected_order (first_selected e) (first_selected f) l = absurd (omega arith)
  selected_order (first_selected e) (after_selected f t) l = omega arith
  selected_order (first_selected e) (after_other f t) l = absurd (true≢false (sym e ∙ f))
  selected_order (after_selected e s) (first_selected f) l = absurd (omega arith)
  selected_order (after_selected e s) (after_selected f t) l = let h = selected_order s t (omega arith) in omega arith
  selected_order (after_selected e s) (after_other f t) l = absurd (true≢false (sym e ∙ f))
  selected_order (after_other e s) (first_selected f) l = absurd (omega arith)
  selected_order (after_other e s) (after_selected f t) l = absurd (true≢false (sym f ∙ e))
  selected_order (after_other e s) (after_other f t) l = selected_order s t (omega arith)

  selected_one : {rs : List Rule} {j i m : ℕ} {q r : Rule} → Selected p rs j i q → Selected p rs j m r → i ≡ m
  selected_one (first_selected e) (first_selected f) = refl
  selected_one (after_selected e s) (after_selected f t) = ap suc (selected_one s t)
  selected_one (after_selected e s) (after_other f t) = absurd (true≢false (sym e ∙ f))
  selected_one (after_other e s) (after_selected f t) = absurd (true≢false (sym f ∙ e))
  selected_one (after_other e s) (after_other f t) = selected_one s t

  selected_back : {rs : List Rule} {j i k m : ℕ} {q r : Rule} → Selected p rs j i q → Selected p rs k m r → i < m → j < k
  selected_back {rs} {j} {i} {k} {m} {q} {r} s t l =
      ⊎_elim (λ h. h)
      (⊎_elim
      (λ e. absurd (let f = selected_one s (subst (λ (x : ℕ). Selected p rs x m r) (sym e) t) in omega arith))
      (λ h. absurd (let f = selected_order t s h in omega arith)))
      (compare_cases j k)

-- ---- a sheet's rules and an image's numbers

not-true : (b : Bool) → not b ≡ true → b ≡ false
not-true true e = absurd (true≢false (sym e))
not-true false e = refl

-- A rule that is selected among the others is no word rule.
selected_other : {rs : List Rule} {j i : ℕ} {r : Rule} → Selected other_rule rs j i r → word_rule r ≡ false
selected_other {r = r} s = not-true (word_rule r) (selected_passes other_rule s)

module _ (rules : List Rule) where
  -- It is the same rule in both, and each rule of the one is a rule of the other.
  pub number-rule : {j k : ℕ} {r : Rule} → ImageNumber rules j k r → RuleAt rules j r
  number-rule (among_words s) = selected_rule word_rule s
  number-rule (after_words s) = selected_rule other_rule s

  pub number-image : {j k : ℕ} {r : Rule} → ImageNumber rules j k r → RuleAt (words_first rules) k r
  unfolding words_first partition
  number-image (among_words s) = at_left (selected_number word_rule s) (filter other_rule rules)
  number-image (after_words s) = at_right (filter word_rule rules) (selected_number other_rule s)

  pub image-number_of : {j : ℕ} {r : Rule} → RuleAt rules j r → (k : ℕ) × ImageNumber rules j k r
  image-number_of {j} {r} a = go (word_rule r) refl
    where
      go : (b : Bool) → word_rule r ≡ b → (k : ℕ) × ImageNumber rules j k r
      go true e = let h = selected_of word_rule a e in (h.0, among_words h.1)
      go false e = let h = selected_of other_rule a (ap not e) in (length (filter word_rule rules) + h.0, after_words h.1)

  pub of_image-number : {k : ℕ} {r : Rule} → RuleAt (words_first rules) k r → (j : ℕ) × ImageNumber rules j k r
  unfolding words_first partition
  of_image-number {k} {r} a =
      ⊎_elim (λ b. let h = of_selected word_rule rules b in (h.0, among_words h.1))
      (λ b. let h = of_selected other_rule rules b.2 in
      (h.0, subst (λ (i : ℕ). ImageNumber rules h.0 i r) (sym b.1) (after_words h.1)))
      (at-either (filter word_rule rules) (filter other_rule rules) a)

  -- The lower number in the image is the rule of the sheet that wins by kind.
  pub lower_wins : {j k i m : ℕ} {q r : Rule} → ImageNumber rules j k q → ImageNumber rules i m r → k < m → WinsOver rules by_kind j i
  lower_wins (among_words s) (among_words t) l =
      lower_of_a_kind (selected_rule word_rule s) (selected_rule word_rule t) (selected_passes word_rule s ∙ sym (selected_passes word_rule t))
      (selected_back word_rule s t l)
  lower_wins (among_words s) (after_words t) l =
      word_over_other (selected_rule word_rule s) (selected_rule other_rule t) (selected_passes word_rule s)
      (selected_other t)
  lower_wins (after_words s) (among_words t) l = absurd (let h = selected_below word_rule t in omega arith)
  lower_wins (after_words s) (after_words t) l =
      lower_of_a_kind (selected_rule other_rule s) (selected_rule other_rule t)
      (selected_other s ∙ sym (selected_other t))
      (selected_back other_rule s t (omega arith))

  -- The kind of a rule, by its number.
  same_kind : {j : ℕ} {q r : Rule} → RuleAt rules j q → RuleAt rules j r → word_rule q ≡ word_rule r
  same_kind a b = ap word_rule (rule_one a b)

  pub winner_lower : {j k i m : ℕ} {q r : Rule} → ImageNumber rules j k q → ImageNumber rules i m r → WinsOver rules by_kind j i → k < m
  winner_lower (among_words s) (among_words t) (word_over_other a b e f) =
      absurd (true≢false (sym (selected_passes word_rule t) ∙ (same_kind (selected_rule word_rule t) b ∙ f)))
  winner_lower (among_words s) (among_words t) (lower_of_a_kind a b e l) = selected_order word_rule s t l
  winner_lower (among_words s) (after_words t) w = let h = selected_below word_rule s in omega arith
  winner_lower (after_words s) (among_words t) (word_over_other a b e f) =
      absurd (true≢false (sym (selected_passes word_rule t) ∙ (same_kind (selected_rule word_rule t) b ∙ f)))
  winner_lower (after_words s) (among_words t) (lower_of_a_kind a b e l) =
      absurd (true≢false (sym (selected_passes word_rule t)
      ∙ (same_kind (selected_rule word_rule t) b ∙ (sym e ∙ (same_kind a (selected_rule other_rule s) ∙ selected_other s)))))
  winner_lower (after_words s) (after_words t) (word_over_other a b e f) =
      absurd (true≢false (sym e ∙ (same_kind a (selected_rule other_rule s) ∙ selected_other s)))
  winner_lower (after_words s) (after_words t) (lower_of_a_kind a b e l) = let h = selected_order other_rule s t l in omega arith

-- By number, the lower rule wins.
pub lower-number : {rules : List Rule} {j k : ℕ} → WinsOver rules by_number j k → j < k
lower-number (lower_rule l) = l

-- Of two rules one wins, unless they are the same, by either order.
pub one_wins : (order : Order) {rules : List Rule} {j k : ℕ} {q r : Rule} → RuleAt rules j q → RuleAt rules k r
    → WinsOver rules order j k ⊎ ((j ≡ k) ⊎ WinsOver rules order k j)
one_wins by_number {rules} {j} {k} a b =
    ⊎_elim (λ l. inl (lower_rule l)) (⊎_elim (λ e. inr (inl e)) (λ l. inr (inr (lower_rule l)))) (compare_cases j k)
one_wins by_kind {rules} {j} {k} {q} {r} a b = go (word_rule q) (word_rule r) refl refl
  where
    of_a_kind : word_rule q ≡ word_rule r → WinsOver rules by_kind j k ⊎ ((j ≡ k) ⊎ WinsOver rules by_kind k j)
    of_a_kind e =
        ⊎_elim (λ l. inl (lower_of_a_kind a b e l))
        (⊎_elim (λ f. inr (inl f)) (λ l. inr (inr (lower_of_a_kind b a (sym e) l)))) (compare_cases j k)

    go : (c d : Bool) → word_rule q ≡ c → word_rule r ≡ d → WinsOver rules by_kind j k ⊎ ((j ≡ k) ⊎ WinsOver rules by_kind k j)
    go true true e f = of_a_kind (e ∙ sym f)
    go true false e f = inl (word_over_other a b e f)
    go false true e f = inr (inr (word_over_other b a f e))
    go false false e f = of_a_kind (e ∙ sym f)

-- ---- where no other rule stands above a word rule

words-below : (rules : List Rule) (q : Rule) → ((k : ℕ) (r : Rule) → RuleAt rules k r → word_rule r ≡ true → word_rule q ≡ true)
    → word_rule q ≡ false → All (λ r. word_rule r ≡ false) rules
words-below [] q h e = tt
words-below (r ∷ rules) q h e =
    (go (word_rule r) refl, words-below rules q (λ k s a. h (suc k) s (later_rule a)) e)
  where
    go : (b : Bool) → word_rule r ≡ b → word_rule r ≡ false
    go true f = absurd (true≢false (sym (h 0 r first_rule f) ∙ e))
    go false f = f

all_other : (rules : List Rule) → All (λ r. word_rule r ≡ false) rules → All (λ r. other_rule r ≡ true) rules
all_other [] h = tt
all_other (r ∷ rules) h = (ap not h.0, all_other rules h.1)

pub order_kept : (rules : List Rule) → WordsAbove rules → words_first rules ≡ rules
unfolding words_first partition filter
order_kept [] h = refl
order_kept (q ∷ rules) h = go (word_rule q) refl (order_kept rules (λ j k s r a b l e. h (suc j) (suc k) s r (later_rule a) (later_rule b) (omega arith) e))
  where
    go : (b : Bool) → word_rule q ≡ b → words_first rules ≡ rules → words_first (q ∷ rules) ≡ q ∷ rules
    go true e f =
        ap₂ ◌++◌ (filter_one word_rule q rules e) (filter_other other_rule q rules (ap not e)) ∙ ap (λ (l : List Rule). q ∷ l) f
    go false e f =
        let others : All (λ r. word_rule r ≡ false) (q ∷ rules) =
        (e, words-below rules q (λ k r a w. h 0 (suc k) q r first_rule (later_rule a) (omega arith) w) e) in
        ap₂ ◌++◌ (none_pass word_rule (q ∷ rules) others) (all_pass other_rule (q ∷ rules) (all_other (q ∷ rules) others))
