-- What holds at each place of a list whose first member stands at place p: of the parts of a list, and of its members by place.
use Rattle.std.proofs.Common.{subst, arith, add-zero}
use Rattle.std.specs.Prelude.{List, [], ◌∷◌, ◌++◌, ℕ, zero, suc, ◌+◌, ◌<◌, get_or, length}

abbrev pub EachFrom : {A : Type 0} → (ℕ → A → Type 0) → ℕ → List A → Type 0
EachFrom P p [] = Unit
EachFrom P p (x ∷ xs) = P p x × EachFrom P (suc p) xs

module _ {A : Type 0} (P : ℕ → A → Type 0) where
  pub each_left : (p : ℕ) (xs ys : List A) → EachFrom P p (xs ++ ys) → EachFrom P p xs
  each_left p [] ys h = tt
  each_left p (x ∷ xs) ys h = (h.0, each_left (suc p) xs ys h.1)

  pub each_right : (p : ℕ) (xs ys : List A) → EachFrom P p (xs ++ ys) → EachFrom P (p + length xs) ys
  each_right p [] ys h = rw add-zero h
  each_right p (x ∷ xs) ys h = subst (λ n. EachFrom P n ys) (omega arith) (each_right (suc p) xs ys h.1)

  pub each_append : (p : ℕ) (xs ys : List A) → EachFrom P p xs → EachFrom P (p + length xs) ys → EachFrom P p (xs ++ ys)
  each_append p [] ys h k = rw add-zero at k
  each_append p (x ∷ xs) ys h k = (h.0, each_append (suc p) xs ys h.1 (subst (λ n. EachFrom P n ys) (omega arith) k))

  module _ (d : A) where
    pub each_at : (p : ℕ) (xs : List A) → EachFrom P p xs → (n : ℕ) → n < length xs → P (p + n) (get_or xs n d)
    each_at p [] h n l = absurd (omega arith)
    each_at p (x ∷ xs) h zero l = rw add-zero h.0
    each_at p (x ∷ xs) h (suc n) l = subst (λ k. P k (get_or xs n d)) (omega arith) (each_at (suc p) xs h.1 n (omega arith))

    pub each_of : (p : ℕ) (xs : List A) → ((n : ℕ) → n < length xs → P (p + n) (get_or xs n d)) → EachFrom P p xs
    each_of p [] f = tt
    each_of p (x ∷ xs) f =
        (rw add-zero at (f 0 (omega arith)), each_of (suc p) xs (λ n l. subst (λ k. P k (get_or xs n d)) (omega arith) (f (suc n) (omega arith))))

    -- The same for a whole list, whose places count from 0.
    pub each_member : (xs : List A) → EachFrom P 0 xs → (n : ℕ) → n < length xs → P n (get_or xs n d)
    each_member xs h n l = subst (λ k. P k (get_or xs n d)) (omega arith) (each_at 0 xs h n l)

    pub member_each : (xs : List A) → ((n : ℕ) → n < length xs → P n (get_or xs n d)) → EachFrom P 0 xs
    member_each xs f = each_of 0 xs (λ n l. subst (λ k. P k (get_or xs n d)) (omega arith) (f n l))

pub each_map : {A : Type 0} (P Q : ℕ → A → Type 0) → ((n : ℕ) (x : A) → P n x → Q n x)
    → (p : ℕ) (xs : List A) → EachFrom P p xs → EachFrom Q p xs
each_map P Q f p [] h = tt
each_map P Q f p (x ∷ xs) h = (f p x h.0, each_map P Q f (suc p) xs h.1)
