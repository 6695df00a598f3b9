-- Laws of lists that the library lacks: of `filter` and of `flat_map`, for any members. No rule is named here.
use mathlib.Core.Path.{◌≡◌, refl, sym, ap, ◌∙◌}
use mathlib.Core.Bool.{Bool, true, false, not, cond}
use mathlib.Core.List.{List, [], ◌∷◌, ◌++◌, append_assoc, append-nil, map, flat_map}
use Prim.Native.Nat.{◌+◌}
use native.Mathlib.Omega.{arith}
use lib.ListN.{length, length-append}
use Rattle.basics.specs.Lists.{filter, sum}
use Rattle.basics.proofs.laws.Partitions.{sum-parts}
use Rattle.sheet.proofs.laws.ListLaws.{flat_map-append}

pub filter-append : {A : Type 0} (p : A → Bool) (k l : List A) → filter p (k ++ l) ≡ filter p k ++ filter p l
unfolding filter
filter-append p [] l = refl
filter-append {A} p (a ∷ k) l = go (p a) (filter-append p k l)
  where
    go : (b : Bool) → filter p (k ++ l) ≡ filter p k ++ filter p l
        → elim b [ true ↦ a ∷ filter p (k ++ l) | false ↦ filter p (k ++ l) ]
        ≡ elim b [ true ↦ a ∷ filter p k | false ↦ filter p k ] ++ filter p l
    go true e = ap (λ (x : List A). a ∷ x) e
    go false e = e

pub map_flat : {A B : Type 0} (f : A → B) (l : List A) → map f l ≡ flat_map (λ a. f a ∷ []) l
unfolding flat_map
map_flat f [] = refl
map_flat f (a ∷ l) = ap (λ x. f a ∷ x) (map_flat f l)

pub flat_flat : {A B C : Type 0} (g : B → List C) (h : A → List B) (l : List A)
    → flat_map g (flat_map h l) ≡ flat_map (λ a. flat_map g (h a)) l
unfolding flat_map
flat_flat g h [] = refl
flat_flat g h (a ∷ l) = flat_map-append g (h a) (flat_map h l) ∙ ap (λ x. flat_map g (h a) ++ x) (flat_flat g h l)

module _ {A B : Type 0} (f : A → List B) (p : A → Bool) where
  -- One member, if it passes.
  pub flat_one : (a : A) → flat_map f (filter p (a ∷ [])) ≡ cond (p a) (f a) []
  unfolding flat_map filter
  flat_one a = go (p a)
    where
      go : (b : Bool) → flat_map f (elim b [ true ↦ a ∷ [] | false ↦ [] ]) ≡ cond b (f a) []
      go true = append-nil (f a)
      go false = refl

  pub flat_append : (x k l : List A) → flat_map f (x ++ filter p (k ++ l)) ≡ flat_map f (x ++ filter p k) ++ flat_map f (filter p l)
  flat_append x k l =
      ap (λ (y : List A). flat_map f (x ++ y)) (filter-append p k l) ∙ ap (flat_map f) (sym (append_assoc x (filter p k) (filter p l)))
      ∙ flat_map-append f (x ++ filter p k) (filter p l)

  flat_length : (l : List A) → length (flat_map f l) ≡ sum (λ a. length (f a)) l
  unfolding flat_map
  flat_length [] = refl
  flat_length (a ∷ l) = omega (arith, length-append (f a) (flat_map f l), flat_length l)

  -- What passes and what does not have as many entries together as all members.
  pub flat_partition : (l : List A)
      → length (flat_map f (filter p l)) + length (flat_map f (filter (λ a. not (p a)) l)) ≡ length (flat_map f l)
  flat_partition l =
      omega (
        arith,
        flat_length (filter p l),
        flat_length (filter (λ a. not (p a)) l),
        flat_length l,
        sum-parts p (λ a. length (f a)) l,
      )
