-- A node's productions come down in head position: from a left part, an alternative, a body, a repetition's part or a variable's fixed
-- point. In a typed expression such a descent meets no node twice. Here: a bound that grows along it, from a node's usable variables to all nodes.
use Rattle.std.specs.Prelude.{◌≡◌, refl, false, List, ◌∷◌, ℕ, suc, ◌+◌, ◌≤◌, max, get_or}
use Rattle.std.proofs.Common.{arith}
use Rattle.sheet.specs.Expression.{Expression, epsilon, bottom, token, sequence, alternative, fixed_point, variable, repetition, size}
use Rattle.types.specs.Types.{LanguageType, all_usable, Usable, here, there, ◌⊢◌∶◌, type_epsilon, type_bottom, type_token, type_variable, type_sequence, type_alternative, type_fixed_point, type_repetition}
use Rattle.types.specs.TypeNames.{Context}
use Rattle.types.specs.Nodes.{Node}
use Rattle.normal_form.proofs.laws.Places.{Placed, Everywhere, usable_again}

-- The nodes counted, a sequence node as 1 and any other as o: with 1 all nodes are counted, with 0 the sequence nodes.
abbrev pub weight : ℕ → Expression → ℕ
weight o epsilon = o
weight o bottom = o
weight o (token k) = o
weight o (sequence g h) = 1 + (weight o g + weight o h)
weight o (alternative g h) = o + (weight o g + weight o h)
weight o (fixed_point g) = o + weight o g
weight o (variable n) = o
weight o (repetition g) = o + weight o g

-- Of these, the ones that stand in no right part of a sequence; and the others.
abbrev pub head_weight : ℕ → Expression → ℕ
head_weight o epsilon = o
head_weight o bottom = o
head_weight o (token k) = o
head_weight o (sequence g h) = 1 + head_weight o g
head_weight o (alternative g h) = o + (head_weight o g + head_weight o h)
head_weight o (fixed_point g) = o + head_weight o g
head_weight o (variable n) = o
head_weight o (repetition g) = o + head_weight o g

abbrev pub rest_weight : ℕ → Expression → ℕ
rest_weight o epsilon = 0
rest_weight o bottom = 0
rest_weight o (token k) = 0
rest_weight o (sequence g h) = rest_weight o g + weight o h
rest_weight o (alternative g h) = rest_weight o g + rest_weight o h
rest_weight o (fixed_point g) = rest_weight o g
rest_weight o (variable n) = 0
rest_weight o (repetition g) = rest_weight o g

pub weight-parts : (o : ℕ) (g : Expression) → weight o g ≡ head_weight o g + rest_weight o g
weight-parts o epsilon = omega arith
weight-parts o bottom = omega arith
weight-parts o (token k) = omega arith
weight-parts o (sequence g h) = let a = weight-parts o g in omega arith
weight-parts o (alternative g h) = let a = weight-parts o g in let b = weight-parts o h in omega arith
weight-parts o (fixed_point g) = let a = weight-parts o g in omega arith
weight-parts o (variable n) = omega arith
weight-parts o (repetition g) = let a = weight-parts o g in omega arith

pub weight-size : (g : Expression) → weight 1 g ≡ size g
unfolding size
weight-size epsilon = refl
weight-size bottom = refl
weight-size (token k) = refl
weight-size (sequence g h) = let a = weight-size g in let b = weight-size h in omega arith
weight-size (alternative g h) = let a = weight-size g in let b = weight-size h in omega arith
weight-size (fixed_point g) = let a = weight-size g in omega arith
weight-size (variable n) = refl
weight-size (repetition g) = let a = weight-size g in omega arith

-- U m n: the node n keeps the bound m. Each variable that may be used keeps it.
abbrev pub VariablesKeep : (ℕ → ℕ → Type 0) → Context → List ℕ → ℕ → Type 0
VariablesKeep U Γ fs m = (n : ℕ) (a : LanguageType) → Usable Γ n a → U m (get_or fs n 0)

-- A fixed point's own variable may not be used yet in its body.
pub keep_in_body : (U : ℕ → ℕ → Type 0) (Γ : Context) (fs : List ℕ) (m p : ℕ) (a : LanguageType) → VariablesKeep U Γ fs m
    → VariablesKeep U (record { usable = false; type = a } ∷ Γ) (p ∷ fs) m
keep_in_body U Γ fs m p a k n b (there {n = i} u) = k i b u

module _ (table : ℕ → Node) (o : ℕ) (U : ℕ → ℕ → Type 0) (raise : (m M n : ℕ) → m ≤ M → U m n → U M n)
    (own : (Γ : Context) (g : Expression) (a : LanguageType) → Γ ⊢ g ∶ a → (p : ℕ) (fs : List ℕ) → Placed table g p fs → (m : ℕ)
    → VariablesKeep U Γ fs m → U (m + head_weight o g) p) where
  own_bound : {Γ : Context} {g : Expression} {a : LanguageType} → Γ ⊢ g ∶ a → (p : ℕ) (fs : List ℕ) → Placed table g p fs → (m B : ℕ)
      → VariablesKeep U Γ fs m → m + weight o g ≤ B → U B p
  own_bound {Γ} {g} {a} d p fs t m B k x = let w = weight-parts o g in
      raise (m + head_weight o g) B p (omega arith) (own Γ g a d p fs t m k)

  next_bound : (Γ : Context) (fs : List ℕ) (m M p : ℕ) (a : LanguageType) → U m p → VariablesKeep U (all_usable Γ) fs M
      → VariablesKeep U (all_usable (record { usable = false; type = a } ∷ Γ)) (p ∷ fs) (max M m)
  next_bound Γ fs m M p a x k n b here = raise m (max M m) p (omega arith) x
  next_bound Γ fs m M p a x k n b (there {n = i} u) = raise M (max M m) (get_or fs i 0) (omega arith) (k i b u)

  -- If the usable variables keep m and all variables M, all nodes keep B.
  pub bounded : {Γ : Context} {g : Expression} {a : LanguageType} → Γ ⊢ g ∶ a → (p : ℕ) (fs : List ℕ) → Placed table g p fs → (m M B : ℕ)
      → VariablesKeep U Γ fs m → VariablesKeep U (all_usable Γ) fs M → m + weight o g ≤ B → M + rest_weight o g ≤ B → Everywhere (U B) g p
  bounded (type_epsilon {Γ = Γ}) p fs t m M B k l x y = own_bound (type_epsilon {Γ = Γ}) p fs t m B k x
  bounded (type_bottom {Γ = Γ}) p fs t m M B k l x y = own_bound (type_bottom {Γ = Γ}) p fs t m B k x
  bounded (type_token {Γ = Γ} i) p fs t m M B k l x y = own_bound (type_token {Γ = Γ} i) p fs t m B k x
  bounded (type_variable u) p fs t m M B k l x y = own_bound (type_variable u) p fs t m B k x
  bounded (type_sequence {Γ = Γ} {g = g} {h = h} d e s) p fs t m M B k l x y = (
    own_bound (type_sequence d e s) p fs t m B k x,
    bounded d (suc p) fs t.1 m M B k l (omega arith) (omega arith),
    bounded e (suc p + size g) fs t.2 M M B l (λ n b u. l n b (usable_again Γ u)) (omega arith)
        (let w = weight-parts o h in omega arith),
  )
  bounded (type_alternative {g = g} d e s) p fs t m M B k l x y = (
    own_bound (type_alternative d e s) p fs t m B k x,
    bounded d (suc p) fs t.1 m M B k l (omega arith) (omega arith),
    bounded e (suc p + size g) fs t.2 m M B k l (omega arith) (omega arith),
  )
  bounded (type_fixed_point {Γ = Γ} {g = g} {a = a} d) p fs t m M B k l x y =
      let h = head_weight o (fixed_point g) in (
        own_bound (type_fixed_point d) p fs t m B k x,
        bounded d (suc p) (p ∷ fs) t.1 m (max M (m + h)) B (keep_in_body U Γ fs m p a k)
            (next_bound Γ fs (m + h) M p a (own Γ (fixed_point g) a (type_fixed_point d) p fs t m k) l) (omega arith)
            (let w = weight-parts o g in omega arith),
      )
  bounded (type_repetition d s e) p fs t m M B k l x y =
      (own_bound (type_repetition d s e) p fs t m B k x, bounded d (suc p) fs t.1 m M B k l (omega arith) (omega arith))
