-- Where the nodes of an expression stand in the list of all nodes, and a property of every node from its parts. What the
-- nodes mean, their productions and their languages, is not spoken of here.
use Rattle.std.specs.Prelude.{◌≡◌, refl, Bool, List, [], ◌∷◌, ◌++◌, map, ℕ, zero, suc, ◌+◌, ◌≤◌, ◌<◌, get_or, length}
use Rattle.std.proofs.Common.{ap, ap₂, ⊎_elim, arith, add-zero}
use Rattle.std.proofs.Math.Path.{subst}
use Rattle.std.proofs.Math.Bool.{false}
use Rattle.std.proofs.Math.ListN.{get_or-map}
use Rattle.basics.proofs.laws.Order.{lt-or-le}
use Rattle.sheet.specs.Expression.{Expression, epsilon, bottom, token, sequence, alternative, fixed_point, variable, repetition, size}
use Rattle.types.specs.Types.{LanguageType, all_usable, Usable, here, there}
use Rattle.types.specs.TypeNames.{Context}
use Rattle.types.specs.Nodes.{Node, epsilon_node, bottom_node, token_node, sequence_node, alternative_node, fixed_point_node, variable_node, repetition_node, Binder, no_binder, guard, nodes_from, nodes, node_at}
use Rattle.types.proofs.laws.NodeLaws.{nodes-length}

-- A table holds the list from p on.
abbrev pub Segment {ℓ} : {A : Type ℓ} → (ℕ → A) → ℕ → List A → Type ℓ
Segment table p [] = Unit
Segment table p (x ∷ xs) = (table p ≡ x) × Segment table (suc p) xs

pub segment_left {ℓ} : {A : Type ℓ} (table : ℕ → A) (p : ℕ) (xs ys : List A) → Segment table p (xs ++ ys) → Segment table p xs
segment_left table p [] ys h = tt
segment_left table p (x ∷ xs) ys h = (h.0, segment_left table (suc p) xs ys h.1)

pub segment_right {ℓ} : {A : Type ℓ} (table : ℕ → A) (p : ℕ) (xs ys : List A) → Segment table p (xs ++ ys)
    → Segment table (p + length xs) ys
segment_right table p [] ys h = rw add-zero h
segment_right table p (x ∷ xs) ys h = subst (λ n. Segment table n ys) (omega arith) (segment_right table (suc p) xs ys h.1)

segment_shift {ℓ} : {A : Type ℓ} (table : ℕ → A) (p : ℕ) (xs : List A) → Segment (λ n. table (suc n)) p xs → Segment table (suc p) xs
segment_shift table p [] h = tt
segment_shift table p (x ∷ xs) h = (h.0, segment_shift table (suc p) xs h.1)

pub segment_all {ℓ} : {A : Type ℓ} (d : A) (xs : List A) → Segment (λ n. get_or xs n d) zero xs
segment_all d [] = tt
segment_all d (x ∷ xs) = (refl, segment_shift (λ n. get_or (x ∷ xs) n d) zero xs (segment_all d xs))

-- Two lists of one length that agree at every place.
pub list_path {ℓ} : {A : Type ℓ} (d : A) (l m : List A) → length l ≡ length m → ((n : ℕ) → get_or l n d ≡ get_or m n d) → l ≡ m
list_path d [] [] e f = refl
list_path d [] (y ∷ m) e f = absurd (omega arith)
list_path d (x ∷ l) [] e f = absurd (omega arith)
list_path d (x ∷ l) (y ∷ m) e f = ap₂ ◌∷◌ (f 0) (list_path d l m (omega arith) (λ n. f (suc n)))

-- The nodes of g stand in the table from p on, where the open fixed points are the nodes fs, the innermost first.
abbrev pub Placed : (ℕ → Node) → Expression → ℕ → List ℕ → Type 0
Placed table epsilon p fs = table p ≡ epsilon_node
Placed table bottom p fs = table p ≡ bottom_node
Placed table (token k) p fs = table p ≡ token_node k
Placed table (sequence g h) p fs =
    (table p ≡ sequence_node (suc p) (suc p + size g)) × Placed table g (suc p) fs × Placed table h (suc p + size g) fs
Placed table (alternative g h) p fs =
    (table p ≡ alternative_node (suc p) (suc p + size g)) × Placed table g (suc p) fs × Placed table h (suc p + size g) fs
Placed table (fixed_point g) p fs = (table p ≡ fixed_point_node (suc p)) × Placed table g (suc p) (p ∷ fs)
Placed table (variable n) p fs = (guarded : Bool) × (table p ≡ variable_node (get_or fs n 0) guarded)
Placed table (repetition g) p fs = (table p ≡ repetition_node (suc p) p) × Placed table g (suc p) fs

abbrev binder_nodes : List Binder → List ℕ
binder_nodes = map (λ (b : Binder). b.node)

guard-nodes : (bs : List Binder) → binder_nodes (map guard bs) ≡ binder_nodes bs
guard-nodes [] = refl
guard-nodes (b ∷ bs) = ap (λ (l : List ℕ). b.node ∷ l) (guard-nodes bs)

module _ (table : ℕ → Node) where
  placed_from : (g : Expression) (p : ℕ) (bs : List Binder) → Segment table p (nodes_from g p bs) → Placed table g p (binder_nodes bs)
  unfolding nodes_from
  placed_from epsilon p bs h = h.0
  placed_from bottom p bs h = h.0
  placed_from (token k) p bs h = h.0
  placed_from (sequence g k) p bs h =
      let l = nodes_from g (suc p) bs in let r = nodes_from k (suc p + size g) (map guard bs) in
      let q : Segment table (suc p + size g) r = rw (nodes-length g (suc p) bs) at (segment_right table (suc p) l r h.1) in (
        h.0,
        placed_from g (suc p) bs (segment_left table (suc p) l r h.1),
        subst (Placed table k (suc p + size g)) (guard-nodes bs) (placed_from k (suc p + size g) (map guard bs) q),
      )
  placed_from (alternative g k) p bs h =
      let l = nodes_from g (suc p) bs in let r = nodes_from k (suc p + size g) bs in
      let q : Segment table (suc p + size g) r = rw (nodes-length g (suc p) bs) at (segment_right table (suc p) l r h.1) in
      (h.0, placed_from g (suc p) bs (segment_left table (suc p) l r h.1), placed_from k (suc p + size g) bs q)
  placed_from (fixed_point g) p bs h = (h.0, placed_from g (suc p) (record { node = p; guarded = false } ∷ bs) h.1)
  placed_from (variable n) p bs h = (
    (get_or bs n no_binder).guarded,
    rw (get_or-map (λ (b : Binder). b.node) bs n no_binder) h.0,
  )
  placed_from (repetition g) p bs h = (h.0, placed_from g (suc p) bs h.1)

pub nodes_placed : (e : Expression) → Placed (node_at (nodes e)) e 0 []
unfolding nodes
nodes_placed e = placed_from (node_at (nodes e)) e 0 [] (segment_all bottom_node (nodes e))

pub nodes-count : (e : Expression) → length (nodes e) ≡ size e
unfolding nodes
nodes-count e = nodes-length e 0 []

-- A property of every node of g, whose own node is p.
abbrev pub Everywhere {ℓ} : (ℕ → Type ℓ) → Expression → ℕ → Type ℓ
Everywhere P epsilon p = P p
Everywhere P bottom p = P p
Everywhere P (token k) p = P p
Everywhere P (sequence g h) p = P p × Everywhere P g (suc p) × Everywhere P h (suc p + size g)
Everywhere P (alternative g h) p = P p × Everywhere P g (suc p) × Everywhere P h (suc p + size g)
Everywhere P (fixed_point g) p = P p × Everywhere P g (suc p)
Everywhere P (variable n) p = P p
Everywhere P (repetition g) p = P p × Everywhere P g (suc p)

module _ {ℓ} (P : ℕ → Type ℓ) where
  at_place : (p n : ℕ) → p ≤ n → n < p + 1 → P p → P n
  at_place p n h l x = subst P (omega arith) x

  at_part : (g : Expression) (p n : ℕ) → p ≤ n → n < p + (1 + size g) → P p → ((n : ℕ) → suc p ≤ n → n < suc p + size g → P n) → P n
  at_part g p n l u x f = ⊎_elim (λ a. subst P (omega arith) x) (λ a. f n (omega arith) (omega arith)) (lt-or-le n (suc p))

  at_parts : (g h : Expression) (p n : ℕ) → p ≤ n → n < p + (1 + (size g + size h)) → P p
      → ((n : ℕ) → suc p ≤ n → n < suc p + size g → P n)
      → ((n : ℕ) → suc p + size g ≤ n → n < suc p + size g + size h → P n) → P n
  at_parts g h p n l u x f k = ⊎_elim (λ a. subst P (omega arith) x)
      (λ a. ⊎_elim (λ b. f n (omega arith) (omega arith)) (λ b. k n (omega arith) (omega arith)) (lt-or-le n (suc p + size g)))
      (lt-or-le n (suc p))

  everywhere_at : (g : Expression) (p : ℕ) → Everywhere P g p → (n : ℕ) → p ≤ n → n < p + size g → P n
  unfolding size
  everywhere_at epsilon p h n l u = at_place p n l u h
  everywhere_at bottom p h n l u = at_place p n l u h
  everywhere_at (token k) p h n l u = at_place p n l u h
  everywhere_at (sequence g k) p h n l u =
      at_parts g k p n l u h.0 (everywhere_at g (suc p) h.1) (everywhere_at k (suc p + size g) h.2)
  everywhere_at (alternative g k) p h n l u =
      at_parts g k p n l u h.0 (everywhere_at g (suc p) h.1) (everywhere_at k (suc p + size g) h.2)
  everywhere_at (fixed_point g) p h n l u = at_part g p n l u h.0 (everywhere_at g (suc p) h.1)
  everywhere_at (variable k) p h n l u = at_place p n l u h
  everywhere_at (repetition g) p h n l u = at_part g p n l u h.0 (everywhere_at g (suc p) h.1)

  -- Of every number, if it holds past the last node too.
  pub everywhere_all : (e : Expression) → Everywhere P e 0 → ((n : ℕ) → size e ≤ n → P n) → (n : ℕ) → P n
  everywhere_all e h past n = ⊎_elim (λ l. everywhere_at e 0 h n (omega arith) (omega arith)) (past n) (lt-or-le n (size e))

-- A variable that may be used still may where all may; and where all may, all do already.
pub usable_still : {Γ : Context} {n : ℕ} {a : LanguageType} → Usable Γ n a → Usable (all_usable Γ) n a
usable_still here = here
usable_still (there u) = there (usable_still u)

pub usable_again : (Γ : Context) {n : ℕ} {a : LanguageType} → Usable (all_usable (all_usable Γ)) n a → Usable (all_usable Γ) n a
usable_again (h ∷ Γ) here = here
usable_again (h ∷ Γ) (there u) = there (usable_again Γ u)
usable_again [] h = elim h [ ]

pub none_usable {ℓ} : {X : Type ℓ} {n : ℕ} {a : LanguageType} → Usable [] n a → X
none_usable u = absurd (elim u [ ])
