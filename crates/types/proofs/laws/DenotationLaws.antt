-- Laws of what an expression denotes: it grows with the languages of its open variables, a word at the union of a rising chain is
-- a word at some member, and so a fixed point's language is its body's at that language itself; and a repetition's language by its own.
-- No type is spoken of here.
use Rattle.std.specs.Prelude.{List, [], ◌∷◌, ◌++◌, ◌↔◌, ℕ, zero, suc, ◌+◌, ◌≤◌}
use Rattle.std.proofs.Common.{inl, inr, arith}
use Rattle.std.proofs.Math.Decide.{le_ind}
use Rattle.sheet.specs.Expression.{Expression, epsilon, bottom, token, sequence, alternative, fixed_point, variable, repetition}
use Rattle.types.specs.Denotation.{Language, iterate, least_fixed_point, language_at, denotation}
use Rattle.types.specs.Languages.{none_or_more, any_number_of, Environment}

-- Two lists of one length, related place by place.
pub data Pointwise {ℓ κ} {A : Type ℓ} {B : Type κ} (R : A → B → Type 0) : List A → List B → Type (ℓ ⊔ κ) where
  pointwise_nil : Pointwise R [] []
  pointwise_cons : {a : A} {b : B} {l : List A} {m : List B} → R a b → Pointwise R l m → Pointwise R (a ∷ l) (b ∷ m)

pub pointwise_append {ℓ κ} : {A : Type ℓ} {B : Type κ} {R : A → B → Type 0} {l l' : List A} {m m' : List B}
    → Pointwise R l m → Pointwise R l' m' → Pointwise R (l ++ l') (m ++ m')
pointwise_append pointwise_nil t = t
pointwise_append (pointwise_cons r s) t = pointwise_cons r (pointwise_append s t)

-- Inclusion, of languages and of environments.
infix 20 ◌⊆◌
abbrev pub ◌⊆◌ : Language → Language → Type 0
◌⊆◌ L M = (w : List ℕ) → L w → M w

abbrev pub Included : Environment → Environment → Type 1
Included = Pointwise ◌⊆◌

pub included_self : (γ : Environment) → Included γ γ
included_self [] = pointwise_nil
included_self (L ∷ γ) = pointwise_cons (λ w h. h) (included_self γ)

included_at : {γ δ : Environment} → Included γ δ → (n : ℕ) → language_at γ n ⊆ language_at δ n
included_at pointwise_nil n w h = h
included_at (pointwise_cons r s) zero w h = r w h
included_at (pointwise_cons r s) (suc n) w h = included_at s n w h

iterate_monotone : (f g : Language → Language) → ((L M : Language) → L ⊆ M → f L ⊆ g M) → (i : ℕ) → iterate f i ⊆ iterate g i
iterate_monotone f g h zero w x = x
iterate_monotone f g h (suc i) w x = h (iterate f i) (iterate g i) (iterate_monotone f g h i) w x

pub none_or_more_monotone : (L L' M M' : Language) → L ⊆ L' → M ⊆ M' → none_or_more L M ⊆ none_or_more L' M'
none_or_more_monotone L L' M M' r s w (inl e) = inl e
none_or_more_monotone L L' M M' r s w (inr h) = inr (h.0, h.1, h.2, r h.0 h.3, s h.1 h.4)

-- Proposition 3.2 of the typing paper: with greater languages for its variables an expression denotes a greater language.
pub denotation_monotone : (g : Expression) {γ δ : Environment} → Included γ δ → denotation g γ ⊆ denotation g δ
denotation_monotone epsilon s w h = h
denotation_monotone bottom s w h = h
denotation_monotone (token k) s w h = h
denotation_monotone (sequence g k) s w h =
    (h.0, h.1, h.2, denotation_monotone g s h.0 h.3, denotation_monotone k s h.1 h.4)
denotation_monotone (alternative g k) s w (inl a) = inl (denotation_monotone g s w a)
denotation_monotone (alternative g k) s w (inr b) = inr (denotation_monotone k s w b)
denotation_monotone (fixed_point g) {γ} {δ} s w h = (
  h.0,
  iterate_monotone (λ L. denotation g (L ∷ γ)) (λ L. denotation g (L ∷ δ)) (λ L M r. denotation_monotone g (pointwise_cons r s))
      h.0 w h.1,
)
denotation_monotone (variable n) s w h = included_at s n w h
denotation_monotone (repetition g) {γ} {δ} s w h = (
  h.0,
  iterate_monotone (none_or_more (denotation g γ)) (none_or_more (denotation g δ))
      (λ L M r. none_or_more_monotone (denotation g γ) (denotation g δ) L M (denotation_monotone g s) r) h.0 w h.1,
)

-- L₀ ⊆ L₁ ⊆ L₂ ⊆ ..
module _ (f : Language → Language) (monotone : (L M : Language) → L ⊆ M → f L ⊆ f M) where
  iterate_step : (i : ℕ) → iterate f i ⊆ iterate f (suc i)
  iterate_step zero w h = absurd h
  iterate_step (suc i) w h = monotone (iterate f i) (iterate f (suc i)) (iterate_step i) w h

  pub iterate_rises : (i j : ℕ) → i ≤ j → iterate f i ⊆ iterate f j
  iterate_rises i j h = le_ind (λ n. iterate f i ⊆ iterate f n) (λ w x. x) (λ n l ih w x. iterate_step n w (ih w x)) j h

-- A rising chain of environments, and an environment that lies within its union.
abbrev pub Rising : (ℕ → Environment) → Type 1
Rising γ = (i j : ℕ) → i ≤ j → Included (γ i) (γ j)

abbrev pub WithinUnion : Environment → (ℕ → Environment) → Type 0
WithinUnion δ γ = (n : ℕ) (w : List ℕ) → language_at δ n w → (i : ℕ) × language_at (γ i) n w

abbrev pub Continuous : Expression → Type 1
Continuous g =
    (δ : Environment) (γ : ℕ → Environment) → Rising γ → WithinUnion δ γ → (w : List ℕ) → denotation g δ w → (i : ℕ) × denotation g (γ i) w

-- A fixed point, by its iterates, each of which is a rising chain itself.
module _ (g : Expression) (c : Continuous g) (δ : Environment) (γ : ℕ → Environment) (r : Rising γ) (k : WithinUnion δ γ) where
  abbrev body_at : Environment → Language → Language
  body_at ε L = denotation g (L ∷ ε)

  iterates_rise : (j : ℕ) → Rising (λ i. iterate (body_at (γ i)) j ∷ γ i)
  iterates_rise j a b h = pointwise_cons
      (iterate_monotone (body_at (γ a)) (body_at (γ b)) (λ L M s. denotation_monotone g (pointwise_cons s (r a b h))) j) (r a b h)

  within : (j : ℕ) → ((w : List ℕ) → iterate (body_at δ) j w → (i : ℕ) × iterate (body_at (γ i)) j w)
      → WithinUnion (iterate (body_at δ) j ∷ δ) (λ i. iterate (body_at (γ i)) j ∷ γ i)
  within j ih zero v x = ih v x
  within j ih (suc n) v x = k n v x

  continuous_fixed_point : (j : ℕ) (w : List ℕ) → iterate (body_at δ) j w → (i : ℕ) × iterate (body_at (γ i)) j w
  continuous_fixed_point zero w h = absurd h
  continuous_fixed_point (suc j) w h =
      c (iterate (body_at δ) j ∷ δ) (λ i. iterate (body_at (γ i)) j ∷ γ i) (iterates_rise j) (within j (continuous_fixed_point j)) w h

-- A repetition, by its iterates: a member of the chain for the part's word and one for the rest.
module _ (g : Expression) (c : Continuous g) (δ : Environment) (γ : ℕ → Environment) (r : Rising γ) (k : WithinUnion δ γ) where
  abbrev repeats_at : Environment → Language → Language
  repeats_at ε = none_or_more (denotation g ε)

  repeats_rise : (j a b : ℕ) → a ≤ b → iterate (repeats_at (γ a)) j ⊆ iterate (repeats_at (γ b)) j
  repeats_rise j a b h = iterate_monotone (repeats_at (γ a)) (repeats_at (γ b))
      (λ L M s. none_or_more_monotone (denotation g (γ a)) (denotation g (γ b)) L M (denotation_monotone g (r a b h)) s) j

  continuous_repetition : (j : ℕ) (w : List ℕ) → iterate (repeats_at δ) j w → (i : ℕ) × iterate (repeats_at (γ i)) j w
  continuous_repetition zero w h = absurd h
  continuous_repetition (suc j) w (inl e) = (zero, inl e)
  continuous_repetition (suc j) w (inr h) =
      let x = c δ γ r k h.0 h.3 in
      let y = continuous_repetition j h.1 h.4 in (
        x.0 + y.0,
        inr (
          h.0,
          h.1,
          h.2,
          denotation_monotone g (r x.0 (x.0 + y.0) (omega arith)) h.0 x.1,
          repeats_rise j y.0 (x.0 + y.0) (omega arith) h.1 y.1,
        ),
      )

-- A word at the union of a rising chain of environments is a word at some member.
pub denotation_continuous : (g : Expression) (δ : Environment) (γ : ℕ → Environment) → Rising γ → WithinUnion δ γ
    → (w : List ℕ) → denotation g δ w → (i : ℕ) × denotation g (γ i) w
denotation_continuous epsilon δ γ r c w h = (zero, h)
denotation_continuous bottom δ γ r c w h = absurd h
denotation_continuous (token k) δ γ r c w h = (zero, h)
denotation_continuous (sequence g k) δ γ r c w h =
    let x = denotation_continuous g δ γ r c h.0 h.3 in
    let y = denotation_continuous k δ γ r c h.1 h.4 in (
      x.0 + y.0,
      (
        h.0,
        h.1,
        h.2,
        denotation_monotone g (r x.0 (x.0 + y.0) (omega arith)) h.0 x.1,
        denotation_monotone k (r y.0 (x.0 + y.0) (omega arith)) h.1 y.1,
      ),
    )
denotation_continuous (alternative g k) δ γ r c w (inl h) = let x = denotation_continuous g δ γ r c w h in (x.0, inl x.1)
denotation_continuous (alternative g k) δ γ r c w (inr h) = let x = denotation_continuous k δ γ r c w h in (x.0, inr x.1)
denotation_continuous (fixed_point g) δ γ r c w h =
    let x = continuous_fixed_point g (denotation_continuous g) δ γ r c h.0 w h.1 in (x.0, (h.0, x.1))
denotation_continuous (variable n) δ γ r c w h = c n w h
denotation_continuous (repetition g) δ γ r c w h =
    let x = continuous_repetition g (denotation_continuous g) δ γ r c h.0 w h.1 in (x.0, (h.0, x.1))

-- ⟦μα.g⟧γ = ⟦g⟧(γ, ⟦μα.g⟧γ / α)
module _ (g : Expression) (γ : Environment) where
  abbrev body : Language → Language
  body L = denotation g (L ∷ γ)

  pub body_monotone : (L M : Language) → L ⊆ M → body L ⊆ body M
  body_monotone L M r = denotation_monotone g (pointwise_cons r (included_self γ))

  unroll : (w : List ℕ) → denotation (fixed_point g) γ w → body (denotation (fixed_point g) γ) w
  unroll w h = go h.0 h.1
    where
      go : (i : ℕ) → iterate body i w → body (denotation (fixed_point g) γ) w
      go zero x = absurd x
      go (suc i) x = body_monotone (iterate body i) (least_fixed_point body) (λ v y. (i, y)) w x

  roll : (w : List ℕ) → body (denotation (fixed_point g) γ) w → denotation (fixed_point g) γ w
  roll w h =
      let x = denotation_continuous g (least_fixed_point body ∷ γ) (λ i. iterate body i ∷ γ)
      (λ i j l. pointwise_cons (iterate_rises body body_monotone i j l) (included_self γ)) within_union w h in
      (suc x.0, x.1)
    where
      within_union : WithinUnion (least_fixed_point body ∷ γ) (λ i. iterate body i ∷ γ)
      within_union zero v x = x
      within_union (suc n) v x = (zero, x)

  pub fixed_point_unrolls : (w : List ℕ) → denotation (fixed_point g) γ w ↔ denotation g (denotation (fixed_point g) γ ∷ γ) w
  fixed_point_unrolls w = (unroll w, roll w)

-- A word of a repetition is the empty one, or a word of its part and then one of the repetition.
module _ (L : Language) where
  more_unroll : (w : List ℕ) → any_number_of L w → none_or_more L (any_number_of L) w
  more_unroll w h = go h.0 h.1
    where
      go : (i : ℕ) → iterate (none_or_more L) i w → none_or_more L (any_number_of L) w
      go zero x = absurd x
      go (suc i) x = none_or_more_monotone L L (iterate (none_or_more L) i) (any_number_of L) (λ v y. y) (λ v y. (i, y)) w x

  more_roll : (w : List ℕ) → none_or_more L (any_number_of L) w → any_number_of L w
  more_roll w (inl e) = (1, inl e)
  more_roll w (inr h) = (suc h.4.0, inr (h.0, h.1, h.2, h.3, h.4.1))

  pub repetition_unrolls : (w : List ℕ) → any_number_of L w ↔ none_or_more L (any_number_of L) w
  repetition_unrolls w = (more_unroll w, more_roll w)
