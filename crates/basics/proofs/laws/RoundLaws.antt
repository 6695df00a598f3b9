-- The values that rounds lead to solve the equations, and lie below all values that do: over any order in which equations rise and a value
-- can grow only so many times. Which values and which equations is left open.
use Rattle.std.specs.Prelude.{◌≡◌, Bool, true, false, ℕ, zero, suc, ◌-◌, ◌*◌, ◌≤◌, ◌<◌, get_or, replicate}
use Rattle.std.proofs.Math.Path.{refl, ap₂, subst}
use Rattle.std.proofs.Common.{sym, ◌∙◌, true≢false, ⊎_elim, arith, ext_get_or}
use Rattle.std.proofs.Math.Bool.{◌&&◌}
use mathlib.Core.List.{List, [], ◌∷◌, map}
use Rattle.std.proofs.Math.ListN.{length, length-map, get_or-map}
use Rattle.std.proofs.lemmas.List.{length-replicate}
use Rattle.basics.proofs.laws.Truth.{and-true-first, and-true-second}
use Rattle.basics.proofs.laws.Order.{lt-or-le}
use Rattle.basics.specs.Lists.{sum}
use Rattle.basics.specs.Settle.{same_all, least_solution}
use Rattle.basics.specs.Rounds.{rounds}
use Rattle.basics.proofs.laws.Settling.{settle_keeps, settled, settled_rounds}

-- ---- what is asked of values and equations

-- At every place; past the end of a list stands the least value.
abbrev pub AllBelow : {A : Type 0} → (A → A → Type 0) → A → List A → List A → Type 0
AllBelow Below least xs ys = (n : ℕ) → Below (get_or xs n least) (get_or ys n least)

-- Equations that can be solved by rounds. A value rises if the values that it goes by rise. Among the values that fit, one that grows weighs
-- more, and none weighs more than `height`. The equation `none`, which stands past the end of a list of equations, gives the least value.
pub record Equations {A E : Type 0} (same : A → A → Bool) (least : A) (height : ℕ) (equation : List A → E → A) (none : E)
    (Below : A → A → Type 0) (Fits : A → Type 0) (weight : A → ℕ) : Type 0 where
  pub same_equal : (a b : A) → same a b ≡ true → a ≡ b
  pub same_self : (a : A) → same a a ≡ true
  pub transitive : {a b c : A} → Below a b → Below b c → Below a c
  pub antisymmetric : {a b : A} → Below a b → Below b a → a ≡ b
  pub rises : (xs ys : List A) → AllBelow Below least xs ys → (e : E) → Below (equation xs e) (equation ys e)
  pub none_least : (values : List A) → equation values none ≡ least
  pub least_fits : Fits least
  pub least_below : (a : A) → Fits a → Below least a
  pub weight_most : (a : A) → weight a ≤ height
  pub weight_rises : {a b : A} → Below a b → weight a ≤ weight b
  pub weight_full : {a b : A} → Below a b → Fits a → Fits b → weight b ≤ weight a → a ≡ b

-- ---- the least value everywhere

pub least-at : {A : Type 0} (least : A) (k n : ℕ) → get_or (replicate k least) n least ≡ least
least-at least zero n = refl
least-at least (suc k) zero = refl
least-at least (suc k) (suc n) = least-at least k n

-- What holds of the least value at each place holds of a list of it.
pub each_least : {A : Type 0} (least : A) (Q : ℕ → A → Type 0) → ((n : ℕ) → Q n least) → (k n : ℕ) → Q n (get_or (replicate k least) n least)
each_least least Q h k n = subst (Q n) (sym (least-at least k n)) (h n)

module _ {A E : Type 0} {same : A → A → Bool} {least : A} {height : ℕ} {equation : List A → E → A} {none : E} {Below : A → A → Type 0}
    {Fits : A → Type 0} {weight : A → ℕ} (s : Equations same least height equation none Below Fits weight) where
  -- ---- lists of values: equal ones, and their weight

  pub same_all_equal : (xs ys : List A) → same_all same xs ys ≡ true → xs ≡ ys
  unfolding same_all
  same_all_equal [] [] e = refl
  same_all_equal [] (y ∷ ys) e = absurd (true≢false (sym e))
  same_all_equal (x ∷ xs) [] e = absurd (true≢false (sym e))
  same_all_equal (x ∷ xs) (y ∷ ys) e = ap₂ ◌∷◌ (s.same_equal x y (and-true-first (same x y) (same_all same xs ys) e))
      (same_all_equal xs ys (and-true-second (same x y) (same_all same xs ys) e))

  same_all_self : (xs : List A) → same_all same xs xs ≡ true
  unfolding same_all
  same_all_self [] = refl
  same_all_self (x ∷ xs) = ap₂ ◌&&◌ (s.same_self x) (same_all_self xs)

  pub weights_most : (xs : List A) → sum weight xs ≤ height * length xs
  weights_most [] = omega arith
  weights_most (x ∷ xs) = omega (arith, s.weight_most x, weights_most xs)

  weights_rise : (xs ys : List A) → length xs ≡ length ys → AllBelow Below least xs ys → sum weight xs ≤ sum weight ys
  weights_rise [] [] e h = omega arith
  weights_rise [] (y ∷ ys) e h = absurd (omega arith)
  weights_rise (x ∷ xs) [] e h = absurd (omega arith)
  weights_rise (x ∷ xs) (y ∷ ys) e h = omega (arith, s.weight_rises (h 0), weights_rise xs ys (omega arith) (λ n. h (suc n)))

  -- Values that lie below others and weigh no less are those others.
  pub weights_full : (xs ys : List A) → length xs ≡ length ys → AllBelow Below least xs ys → ((n : ℕ) → Fits (get_or xs n least))
      → ((n : ℕ) → Fits (get_or ys n least)) → sum weight ys ≤ sum weight xs → xs ≡ ys
  weights_full [] [] e h f g w = refl
  weights_full [] (y ∷ ys) e h f g w = absurd (omega arith)
  weights_full (x ∷ xs) [] e h f g w = absurd (omega arith)
  weights_full (x ∷ xs) (y ∷ ys) e h f g w =
      let p = s.weight_rises (h 0) in
      let q = weights_rise xs ys (omega arith) (λ n. h (suc n)) in
      ap₂ ◌∷◌ (s.weight_full (h 0) (f 0) (g 0) (omega arith))
      (weights_full xs ys (omega arith) (λ n. h (suc n)) (λ n. f (suc n)) (λ n. g (suc n)) (omega arith))

  -- ---- rounds

  module _ (es : List E) where
    abbrev solution : List A
    solution = least_solution same least height equation es

    abbrev round : List A → List A
    round values = map (equation values) es

    -- One round, at one place.
    pub round-at : (values : List A) (n : ℕ) → get_or (round values) n least ≡ equation values (get_or es n none)
    round-at values n = subst (λ a. get_or (round values) n a ≡ equation values (get_or es n none)) (s.none_least values)
        (get_or-map (equation values) es n none)

    pub round_rises : (xs ys : List A) → AllBelow Below least xs ys → AllBelow Below least (round xs) (round ys)
    round_rises xs ys h n = rw (round-at xs n, round-at ys n) (s.rises xs ys h (get_or es n none))

    -- The solution is what so many rounds lead to.
    pub solution-rounds : solution ≡ rounds least equation es (height * length es)
    unfolding least_solution
    solution-rounds = settled_rounds (same_all same) same_all_equal least equation es (height * length es)

    pub solution_long : length solution ≡ length es
    unfolding least_solution
    solution_long = settle_keeps (same_all same) round (λ values. length values ≡ length es) (λ values h. length-map es (equation values))
        (height * length es) (replicate (length es) least) (length-replicate (length es) least)

    -- What holds of the least value at each place, and is kept by the equations, holds of the values at the end.
    pub solution_every : (Q : ℕ → A → Type 0) → ((n : ℕ) → Q n least)
        → ((values : List A) → ((n : ℕ) → Q n (get_or values n least)) → (n : ℕ) → Q n (equation values (get_or es n none)))
        → (n : ℕ) → Q n (get_or solution n least)
    unfolding least_solution
    solution_every Q first next = settle_keeps (same_all same) round (λ values. (n : ℕ) → Q n (get_or values n least))
        (λ values h n. subst (Q n) (sym (round-at values n)) (next values h n))
        (height * length es) (replicate (length es) least) (each_least least Q first (length es))

    -- ---- the least solution

    -- No round rises above values to which a round adds nothing.
    pub solution-below : (values : List A) → ((n : ℕ) → Below least (get_or values n least)) → AllBelow Below least (round values) values
        → AllBelow Below least solution values
    solution-below values above closed = solution_every (λ n a. Below a (get_or values n least)) above
        (λ xs h n. s.transitive (s.rises xs values h (get_or es n none)) (subst (λ a. Below a (get_or values n least)) (round-at values n) (closed n)))

    -- Values that lie below the solution, and to which a round adds nothing, are the solution. They need not come by rounds.
    pub solution_unique : (values : List A) → length values ≡ length es → ((n : ℕ) → Below least (get_or values n least))
        → AllBelow Below least values solution → AllBelow Below least (round values) values → values ≡ solution
    solution_unique values long above below closed = ext_get_or least values solution (long ∙ sym solution_long)
        (λ n l. s.antisymmetric (below n) (solution-below values above closed n))

    -- Every round that changes something adds to the weight of all values together, which is at most `height` a value.
    module _ (fits : (values : List A) → ((n : ℕ) → Fits (get_or values n least)) → (n : ℕ) → Fits (equation values (get_or es n none))) where
      pub solution_fits : (n : ℕ) → Fits (get_or solution n least)
      solution_fits = solution_every (λ n a. Fits a) (λ n. s.least_fits) fits

      -- What every round keeps.
      record Kept (values : List A) : Type 0 where
        as_many : length values ≡ length es
        rising : AllBelow Below least values (round values)
        fitting : (n : ℕ) → Fits (get_or values n least)

      next_fits : (values : List A) → ((n : ℕ) → Fits (get_or values n least)) → (n : ℕ) → Fits (get_or (round values) n least)
      next_fits values f n = subst Fits (sym (round-at values n)) (fits values f n)

      kept_first : Kept (replicate (length es) least)
      kept_first =
          let first = replicate (length es) least in
          let f = each_least least (λ n a. Fits a) (λ n. s.least_fits) (length es) in
          record {
            as_many = length-replicate (length es) least;
            rising = each_least least (λ n a. Below a (get_or (round first) n least)) (λ n. s.least_below _ (next_fits first f n)) (length es);
            fitting = f;
          }

      kept_next : (values : List A) → Kept values → Kept (round values)
      kept_next values k = record {
        as_many = length-map es (equation values);
        rising = round_rises values (round values) k.rising;
        fitting = next_fits values k.fitting;
      }

      -- What is left until all values are as heavy as can be.
      abbrev left_over : List A → ℕ
      left_over values = height * length es - sum weight values

      kept_falls : (values : List A) → Kept values → same_all same values (round values) ≡ false → left_over (round values) < left_over values
      kept_falls values k changed =
          let next = kept_next values k in
          let most = subst (λ n. sum weight (round values) ≤ height * n) next.as_many (weights_most (round values)) in
          ⊎_elim (λ (l : sum weight values < sum weight (round values)). omega arith)
          (λ l. let e = weights_full values (round values) (k.as_many ∙ sym next.as_many) k.rising k.fitting next.fitting l in
          absurd (true≢false (sym (subst (λ ys. same_all same values ys ≡ true) e (same_all_self values)) ∙ changed)))
          (lt-or-le (sum weight values) (sum weight (round values)))

      pub solution_solves : solution ≡ round solution
      unfolding least_solution
      solution_solves = same_all_equal solution (round solution)
          (settled (same_all same) round Kept left_over kept_next kept_falls (height * length es)
          (replicate (length es) least) kept_first (omega arith)).1
