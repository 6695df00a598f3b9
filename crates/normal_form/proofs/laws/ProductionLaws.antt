-- Laws of a list of productions: the one that begins with a symbol, and lists in which no two begin alike. Which lists are a node's
-- row is not said here.
use Rattle.std.specs.Prelude.{◌≡◌, refl, Bool, true, false, ℕ, eqb}
use Rattle.std.proofs.Common.{sym, ap, ◌∙◌, ⊎_elim, eqb-true}
use mathlib.Core.List.Memᴰ
use mathlib.Core.List.{List, [], ◌∷◌, ◌++◌, map, Memᴰ}
use Rattle.std.proofs.Math.Option.{Option, none, some}
use Rattle.std.proofs.lemmas.Bool.{eqb-false}
use Rattle.basics.specs.Lists.{or_else}
use Rattle.normal_form.specs.Productions.{Production, production_of, ended_by}

same_head : {q r : Production} → q ≡ r → q.head ≡ r.head
same_head e = ap (λ (z : Production). z.head) e

-- What the search for a production tells: one that begins with the symbol, or that none does.
abbrev pub Found : ℕ → List Production → Option Production → Type 0
Found t ps none = (p : Production) → Memᴰ p ps → p.head ≡ t → ⊥
Found t ps (some p) = Memᴰ p ps × (p.head ≡ t)

pub production_found : (t : ℕ) (ps : List Production) → Found t ps (production_of t ps)
unfolding production_of
production_found t [] = λ p m e. Memᴰ.not-nil m
production_found t (q ∷ ps) = go (eqb q.head t) refl (production_of t ps) (production_found t ps)
  where
    go : (b : Bool) → eqb q.head t ≡ b → (o : Option Production) → Found t ps o → Found t (q ∷ ps) (elim b [ true ↦ some q | false ↦ o ])
    go true e o f = (Memᴰ.head refl, eqb-true q.head t e)
    go false e none f = λ p m h. ⊎_elim (λ x. eqb-false q.head t e (sym (same_head x) ∙ h)) (λ x. f p x h) (Memᴰ.cases_cons m)
    go false e (some p) f = (Memᴰ.tail f.0, f.1)

-- Of two lists one after the other: the first list's, or else the second's.
pub production-append : (t : ℕ) (l m : List Production) → production_of t (l ++ m) ≡ or_else (production_of t l) (production_of t m)
unfolding production_of
production-append t [] m = refl
production-append t (p ∷ l) m = go (eqb p.head t) (production-append t l m)
  where
    go : (b : Bool) → production_of t (l ++ m) ≡ or_else (production_of t l) (production_of t m)
        → elim b [ true ↦ some p | false ↦ production_of t (l ++ m) ]
        ≡ or_else (elim b [ true ↦ some p | false ↦ production_of t l ]) (production_of t m)
    go true e = refl
    go false e = e

abbrev pub ended : ℕ → Option Production → Option Production
ended r none = none
ended r (some q) = some (ended_by r q)

pub production-ended : (t r : ℕ) (l : List Production) → production_of t (map (ended_by r) l) ≡ ended r (production_of t l)
unfolding production_of ended_by
production-ended t r [] = refl
production-ended t r (p ∷ l) = go (eqb p.head t) (production-ended t r l)
  where
    go : (b : Bool) → production_of t (map (ended_by r) l) ≡ ended r (production_of t l)
        → elim b [ true ↦ some (ended_by r p) | false ↦ production_of t (map (ended_by r) l) ]
        ≡ ended r (elim b [ true ↦ some p | false ↦ production_of t l ])
    go true e = refl
    go false e = e

-- No two productions of the list begin with the same symbol.
abbrev pub DistinctHeads : List Production → Type 0
DistinctHeads [] = Unit
DistinctHeads (q ∷ l) = ((r : Production) → Memᴰ r l → r.head ≡ q.head → ⊥) × DistinctHeads l

-- Two of them that begin alike are one.
pub distinct_same : (l : List Production) → DistinctHeads l → (q r : Production) → Memᴰ q l → Memᴰ r l → q.head ≡ r.head → q ≡ r
distinct_same [] d q r m n e = absurd (Memᴰ.not-nil m)
distinct_same (x ∷ l) d q r m n e = ⊎_elim
    (λ p. ⊎_elim (λ p'. p ∙ sym p') (λ n'. absurd (d.0 r n' (sym e ∙ same_head p))) (Memᴰ.cases_cons n))
    (λ m'. ⊎_elim (λ p'. absurd (d.0 q m' (e ∙ same_head p'))) (λ n'. distinct_same l d.1 q r m' n' e) (Memᴰ.cases_cons n))
    (Memᴰ.cases_cons m)

pub distinct_append : (l m : List Production) → DistinctHeads l → DistinctHeads m
    → ((q r : Production) → Memᴰ q l → Memᴰ r m → q.head ≡ r.head → ⊥) → DistinctHeads (l ++ m)
distinct_append [] m x y f = y
distinct_append (q ∷ l) m x y f = (
  (λ r k e. ⊎_elim (λ a. x.0 r a e) (λ b. f q r (Memᴰ.head refl) b (sym e)) (Memᴰ.append_cases l k)),
  distinct_append l m x.1 y (λ s r a b. f s r (Memᴰ.tail a) b),
)

pub distinct_ended : (n : ℕ) (l : List Production) → DistinctHeads l → DistinctHeads (map (ended_by n) l)
unfolding ended_by
distinct_ended n [] d = tt
distinct_ended n (q ∷ l) d = (
  (λ r k e. let o = Memᴰ.of_map (ended_by n) l k in d.0 o.0 o.1 (same_head o.2 ∙ e)),
  distinct_ended n l d.1,
)
