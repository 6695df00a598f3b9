-- What a numbering holds at the start and after a node was met, from the two definitions. That the
-- code gives these numberings is proved elsewhere; so is in which order the nodes are met.
use Rattle.std.specs.Prelude.{◌≡◌, Bool, ◌||◌, cond, List, [], ◌∷◌, ◌++◌, ℕ, zero, suc, ◌+◌, ◌≤◌, ◌<◌, get_or, length, set, replicate}
use Rattle.std.proofs.Math.Path.{refl}
use Rattle.std.proofs.Common.{sym, ap, subst, ◌∙◌, arith, add-one, length-append, length-set, get_or-set_same, get_or-set_other, take-suc-set}
use Rattle.std.proofs.Math.Bool.{true, false}
use Rattle.std.proofs.Math.Decide.{ℕ_discrete}
use Rattle.std.proofs.Math.Dec.{leb, ltb}
use borrow.Author.Tests.{eq-eqb, ne_eqb, le-leb, lt-leb, lt-ltb, le-ltb, leb-true, leb-false, ltb-true, ltb-false}
use Rattle.basics.proofs.laws.Truth.{true_holds}
use Rattle.basics.specs.Meeting.{is_met, meet, number_of}
use Rattle.basics.proofs.laws.MeetingLaws.{met-last, number_below, number_left, number-last}
use Rattle.node_numbering.specs.Grammar.{Numbers, Within, numbering_of, start_numbering, numbering_after}
use Rattle.node_numbering.specs.declared.Numbering.{Numbering}

-- ---- the start

all_same : (n k x d : ℕ) → k < n → get_or (replicate n x) k d ≡ x
all_same zero k x d h = absurd (omega arith)
all_same (suc n) zero x d h = refl
all_same (suc n) (suc k) x d h = all_same n k x d (omega arith)

start-numbers : (n : ℕ) → n < 64 → get_or (0 ∷ replicate 63 64) n 0 ≡ cond (is_met n (0 ∷ [])) (number_of (0 ∷ []) n) 64
unfolding is_met number_of
start-numbers zero h = refl
start-numbers (suc n) h = rw (ne_eqb 0 (suc n) (omega arith)) (all_same 63 n 64 0 (omega arith))

pub start_within : Within start_numbering
unfolding start_numbering
start_within = record { count = omega arith; met = refl; number = refl }

pub start-met : Numbers start_numbering (0 ∷ [])
unfolding start_numbering
start-met = record { count = refl; nodes = refl; numbers = start-numbers }

-- ---- one node: what becomes of a numbering, by case

abbrev joined_node : Numbering → ℕ → Numbering
joined_node c n = numbering_of (c.count + 1) (set c.met c.count n) (set c.number n c.count)

module _ (c : Numbering) (n : ℕ) where
  pub no_node : 64 ≤ n → c ≡ numbering_after c n
  unfolding numbering_after
  no_node h = rw (le-leb 64 n h)

  pub already_numbered : n < 64 → get_or c.number n 0 < 64 → c ≡ numbering_after c n
  unfolding numbering_after
  already_numbered h k = rw (lt-leb 64 n h, lt-ltb (get_or c.number n 0) 64 k)

  pub all-numbered : n < 64 → 64 ≤ get_or c.number n 0 → 64 ≤ c.count → c ≡ numbering_after c n
  unfolding numbering_after
  all-numbered h k l = rw (lt-leb 64 n h, le-ltb (get_or c.number n 0) 64 k, le-leb 64 c.count l)

  pub newly_numbered : n < 64 → 64 ≤ get_or c.number n 0 → c.count < 64 → joined_node c n ≡ numbering_after c n
  unfolding numbering_after
  newly_numbered h k l = rw (lt-leb 64 n h, le-ltb (get_or c.number n 0) 64 k, lt-leb 64 c.count l)

  -- What holds of the numbering as it was, and of the one with the node joined to it, holds in each case.
  in_each_case : (P : Numbering → Type 0) → (64 ≤ n → P c) → (get_or c.number n 0 < 64 → P c)
      → (64 ≤ get_or c.number n 0 → 64 ≤ c.count → P c)
      → (n < 64 → 64 ≤ get_or c.number n 0 → c.count < 64 → P (joined_node c n)) → P (numbering_after c n)
  unfolding numbering_after
  in_each_case P out numbered full new = go (leb 64 n) refl (ltb (get_or c.number n 0) 64) refl (leb 64 c.count) refl
    where
      go : (p : Bool) → leb 64 n ≡ p → (q : Bool) → ltb (get_or c.number n 0) 64 ≡ q → (r : Bool) → leb 64 c.count ≡ r
          → P (cond p c (cond q c (cond r c (joined_node c n))))
      go true d q e r f = out (leb-true 64 n d)
      go false d true e r f = numbered (ltb-true (get_or c.number n 0) 64 e)
      go false d false e true f = full (ltb-false (get_or c.number n 0) 64 e) (leb-true 64 c.count f)
      go false d false e false f = new (leb-false 64 n d) (ltb-false (get_or c.number n 0) 64 e) (leb-false 64 c.count f)

-- What stays as it was: lengths, and a count of at most 64.
module _ (c d : Numbering) (n : ℕ) (after : d ≡ numbering_after c n) where
  pub count_within : c.count ≤ 64 → d.count ≤ 64
  count_within h = subst (λ (x : Numbering). x.count ≤ 64) (sym after)
      (in_each_case c n (λ x. x.count ≤ 64) (λ _. h) (λ _. h) (λ _ _. h) (λ _ _ l. omega arith))

  pub met-length : length d.met ≡ length c.met
  met-length = subst (λ (x : Numbering). length x.met ≡ length c.met) (sym after)
      (in_each_case c n (λ x. length x.met ≡ length c.met) (λ _. refl) (λ _. refl) (λ _ _. refl)
      (λ _ _ _. length-set c.met c.count n))

  pub number-length : length d.number ≡ length c.number
  number-length = subst (λ (x : Numbering). length x.number ≡ length c.number) (sym after)
      (in_each_case c n (λ x. length x.number ≡ length c.number) (λ _. refl) (λ _. refl) (λ _ _. refl)
      (λ _ _ _. length-set c.number n c.count))

  pub within_after : Within c → Within d
  within_after h = record { count = count_within h.count; met = met-length ∙ h.met; number = number-length ∙ h.number }

-- ---- one node: what the numbering then holds

module _ (c : Numbering) (met : List ℕ) (h : Numbers c met) (n : ℕ) (small : n < 64) (few : length (meet met n) ≤ 64) where
  meet_met : is_met n met ≡ true → meet met n ≡ met
  unfolding meet
  meet_met e = rw e

  meet_new : is_met n met ≡ false → meet met n ≡ met ++ (n ∷ [])
  unfolding meet
  meet_new e = rw e

  entry_new : is_met n met ≡ false → get_or c.number n 0 ≡ 64
  entry_new e = h.numbers n small ∙ ap (λ (b : Bool). cond b (number_of met n) 64) e

  entry_met : is_met n met ≡ true → get_or c.number n 0 < 64
  entry_met e =
      let b = (number_below n met (true_holds (is_met n met) e)).0 in
      let l = ap length (meet_met e) in
      omega (arith, h.numbers n small ∙ ap (λ (b : Bool). cond b (number_of met n) 64) e)

  met_before : get_or c.number n 0 < 64 → Numbers c (meet met n)
  met_before l = go (is_met n met) refl
    where
      go : (b : Bool) → is_met n met ≡ b → Numbers c (meet met n)
      go true e = subst (Numbers c) (sym (meet_met e)) h
      go false e = absurd (omega (arith, entry_new e))

  not_met : 64 ≤ get_or c.number n 0 → is_met n met ≡ false
  not_met l = go (is_met n met) refl
    where
      go : (b : Bool) → is_met n met ≡ b → b ≡ false
      go true e = absurd (omega (arith, entry_met e))
      go false e = refl

  never_full : 64 ≤ get_or c.number n 0 → 64 ≤ c.count → ⊥
  never_full l k = omega (arith, ap length (meet_new (not_met l)), length-append met (n ∷ []), h.count)

  joined : 64 ≤ get_or c.number n 0 → c.count < length c.met → n < length c.number
      → Numbers (joined_node c n) (meet met n)
  joined l room inside = subst (Numbers (joined_node c n)) (sym (meet_new (not_met l))) (record {
    count = let a = length-append met (n ∷ []) in let b = h.count in omega arith;
    nodes = rw add-one (take-suc-set c.met c.count n room ∙ ap (λ (k : List ℕ). k ++ (n ∷ [])) h.nodes);
    numbers = λ m b. elim (ℕ_discrete m n) [
      | yes e ↦ subst (λ (z : ℕ). get_or (set c.number n c.count) z 0 ≡ cond (is_met z (met ++ (n ∷ []))) (number_of (met ++
          (n ∷ [])) z) 64) (sym e)
          (get_or-set_same c.number n c.count 0 inside ∙ h.count ∙ sym (number-last n met (not_met l))
          ∙ sym (ap (λ (k : Bool). cond k (number_of (met ++ (n ∷ [])) n) 64) met_here))
      | no e ↦ get_or-set_other c.number n m c.count 0 e ∙ h.numbers m b ∙ other m (λ q. e (sym q)) (is_met m met) refl
    ];
  })
    where
      met_here : is_met n (met ++ (n ∷ [])) ≡ true
      met_here = met-last n n met ∙ ap (λ (k : Bool). is_met n met || k) (eq-eqb n n refl) ∙ or_true (is_met n met)
        where
          or_true : (b : Bool) → (b || true) ≡ true
          or_true true = refl
          or_true false = refl

      other : (m : ℕ) → (n ≡ m → ⊥) → (b : Bool) → is_met m met ≡ b
          → cond (is_met m met) (number_of met m) 64 ≡ cond (is_met m (met ++ (n ∷ []))) (number_of (met ++ (n ∷ [])) m) 64
      other m q b e = rw (met-last m n met, ne_eqb n m q, e) (both b e)
        where
          both : (b : Bool) → is_met m met ≡ b → cond b (number_of met m) 64 ≡ cond (b || false) (number_of (met ++ (n ∷ [])) m) 64
          both true e = sym (number_left m met (n ∷ []) (true_holds (is_met m met) e))
          both false e = refl

  -- The node joins those met.
  pub node_met : length c.met ≡ 64 → length c.number ≡ 64 → Numbers (numbering_after c n) (meet met n)
  node_met a b = in_each_case c n (λ d. Numbers d (meet met n)) (λ l. absurd (omega arith)) met_before
      (λ l k. absurd (never_full l k)) (λ _ l k. joined l (omega arith) (omega arith))
