-- The nearest node above each node of an expression: there is a column that says it of all parts. Every node but the first is a part of a
-- node before it, so that a walk from the first node on reaches them all. How code fills the column is not said here.
use Rattle.std.specs.Prelude.{◌≡◌, refl, List, [], ◌∷◌, ◌++◌, ◌⊎◌, ℕ, suc, ◌+◌, ◌≤◌, ◌<◌, get_or, length}
use Rattle.std.proofs.Math.Path.{sym}
use Rattle.std.proofs.Common.{ap, ap₂, ◌∙◌, inl, inr, arith, length-append}
use Rattle.sheet.specs.Expression.{Expression, epsilon, bottom, token, sequence, alternative, fixed_point, variable, repetition, size}
use Rattle.types.specs.Nodes.{Node, epsilon_node, bottom_node, token_node, sequence_node, alternative_node, fixed_point_node, variable_node, repetition_node, nodes, node_at}
use Rattle.types.specs.laws.NodeRanges.{NodeInRange}
use Rattle.normal_form.proofs.laws.Places.{Segment, segment_left, segment_right, segment_all, Placed, nodes_placed, Everywhere, everywhere_all}
use Rattle.descent_table.specs.TableOf.{PartsUp}

-- The node k is a part of the node.
abbrev pub PartOf : Node → ℕ → Type 0
PartOf epsilon_node k = ⊥
PartOf bottom_node k = ⊥
PartOf (token_node t) k = ⊥
PartOf (sequence_node l r) k = (k ≡ l) ⊎ (k ≡ r)
PartOf (alternative_node l r) k = (k ≡ l) ⊎ (k ≡ r)
PartOf (fixed_point_node b) k = k ≡ b
PartOf (variable_node f guarded) k = ⊥
PartOf (repetition_node b self) k = k ≡ b

-- The first node, and the parts of the first so many nodes.
abbrev pub Reached : (ℕ → Node) → ℕ → ℕ → Type 0
Reached table count k = (k ≡ 0) ⊎ ((m : ℕ) × (m < count) × PartOf (table m) k)

-- The column's entries for the nodes of g, whose own node is p and whose own entry is u.
unfoldable up_entries : Expression → ℕ → ℕ → List ℕ
up_entries epsilon p u = u ∷ []
up_entries bottom p u = u ∷ []
up_entries (token k) p u = u ∷ []
up_entries (sequence g h) p u = u ∷ (up_entries g (suc p) (suc p) ++ up_entries h (suc p + size g) u)
up_entries (alternative g h) p u = u ∷ (up_entries g (suc p) u ++ up_entries h (suc p + size g) u)
up_entries (fixed_point g) p u = u ∷ up_entries g (suc p) u
up_entries (variable n) p u = u ∷ []
up_entries (repetition g) p u = u ∷ up_entries g (suc p) (suc p)

pub up_of : Expression → ℕ → ℕ
up_of e n = get_or (up_entries e 0 0) n 0

up_entries-length : (g : Expression) (p u : ℕ) → length (up_entries g p u) ≡ size g
unfolding up_entries size
up_entries-length epsilon p u = refl
up_entries-length bottom p u = refl
up_entries-length (token k) p u = refl
up_entries-length (sequence g h) p u =
    ap suc (length-append (up_entries g (suc p) (suc p)) _ ∙ ap₂ ◌+◌ (up_entries-length g (suc p) (suc p))
    (up_entries-length h (suc p + size g) u)) ∙ omega arith
up_entries-length (alternative g h) p u =
    ap suc (length-append (up_entries g (suc p) u) _ ∙ ap₂ ◌+◌ (up_entries-length g (suc p) u) (up_entries-length h (suc p + size g) u))
    ∙ omega arith
up_entries-length (fixed_point g) p u = ap suc (up_entries-length g (suc p) u) ∙ omega arith
up_entries-length (variable n) p u = refl
up_entries-length (repetition g) p u = ap suc (up_entries-length g (suc p) (suc p)) ∙ omega arith

module _ (table : ℕ → Node) (up : ℕ → ℕ) where
  -- What the column says at node n.
  pub record AboveAt (n : ℕ) : Type 0 where
    pub parts : PartsUp up n (table n)
    pub below : up n ≤ n
    pub reached : Reached table n n

  own_entry : (g : Expression) (p u : ℕ) → Segment up p (up_entries g p u) → up p ≡ u
  unfolding up_entries
  own_entry epsilon p u h = h.0
  own_entry bottom p u h = h.0
  own_entry (token k) p u h = h.0
  own_entry (sequence g k) p u h = h.0
  own_entry (alternative g k) p u h = h.0
  own_entry (fixed_point g) p u h = h.0
  own_entry (variable n) p u h = h.0
  own_entry (repetition g) p u h = h.0

  at_node : (p u : ℕ) (x : Node) → table p ≡ x → up p ≡ u → u ≤ p → Reached table p p → PartsUp up p x → AboveAt p
  at_node p u x t h l r q = record { parts = rw t q; below = omega arith; reached = r }

  -- A part of node p, which stands behind it.
  part_reached : (p k : ℕ) (x : Node) → table p ≡ x → p < k → PartOf x k → Reached table k k
  part_reached p k x t l q = inr (p, l, rw t q)

  module _ (count : ℕ) where
    abbrev At : ℕ → Type 0
    At n = n < count → AboveAt n

    above_from : (g : Expression) (p : ℕ) (fs : List ℕ) (u : ℕ) → Placed table g p fs → Segment up p (up_entries g p u) → u ≤ p
        → Reached table p p → Everywhere At g p
    unfolding up_entries size
    above_from epsilon p fs u x h l r = λ i. at_node p u _ x h.0 l r tt
    above_from bottom p fs u x h l r = λ i. at_node p u _ x h.0 l r tt
    above_from (token k) p fs u x h l r = λ i. at_node p u _ x h.0 l r tt
    above_from (sequence g k) p fs u x h l r =
        let a = up_entries g (suc p) (suc p) in let b = up_entries k (suc p + size g) u in
        let left : Segment up (suc p) a = segment_left up (suc p) a b h.1 in
        let right : Segment up (suc p + size g) b = rw (up_entries-length g (suc p) (suc p)) at (segment_right up (suc p) a b h.1) in (
          (λ i. at_node p u _ x.0 h.0 l r (own_entry g (suc p) (suc p) left, own_entry k (suc p + size g) u right ∙ sym h.0)),
          above_from g (suc p) fs (suc p) x.1 left (omega arith) (part_reached p (suc p) _ x.0 (omega arith) (inl refl)),
          above_from k (suc p + size g) fs u x.2 right (omega arith)
              (part_reached p (suc p + size g) _ x.0 (omega arith) (inr refl)),
        )
    above_from (alternative g k) p fs u x h l r =
        let a = up_entries g (suc p) u in let b = up_entries k (suc p + size g) u in
        let left : Segment up (suc p) a = segment_left up (suc p) a b h.1 in
        let right : Segment up (suc p + size g) b = rw (up_entries-length g (suc p) u) at (segment_right up (suc p) a b h.1) in (
          (λ i. at_node p u _ x.0 h.0 l r
              (own_entry g (suc p) u left ∙ sym h.0, own_entry k (suc p + size g) u right ∙ sym h.0)),
          above_from g (suc p) fs u x.1 left (omega arith) (part_reached p (suc p) _ x.0 (omega arith) (inl refl)),
          above_from k (suc p + size g) fs u x.2 right (omega arith)
              (part_reached p (suc p + size g) _ x.0 (omega arith) (inr refl)),
        )
    above_from (fixed_point g) p fs u x h l r = (
      (λ i. at_node p u _ x.0 h.0 l r (own_entry g (suc p) u h.1 ∙ sym h.0)),
      above_from g (suc p) (p ∷ fs) u x.1 h.1 (omega arith) (part_reached p (suc p) _ x.0 (omega arith) refl),
    )
    above_from (variable n) p fs u x h l r = λ i. at_node p u _ x.1 h.0 l r tt
    above_from (repetition g) p fs u x h l r = (
      (λ i. at_node p u _ x.0 h.0 l r (own_entry g (suc p) (suc p) h.1)),
      above_from g (suc p) fs (suc p) x.1 h.1 (omega arith) (part_reached p (suc p) _ x.0 (omega arith) refl),
    )

module _ (e : Expression) where
  up_entries_held : Segment (up_of e) 0 (up_entries e 0 0)
  unfolding up_of
  up_entries_held = segment_all 0 (up_entries e 0 0)

  pub above_at : (n : ℕ) → n < size e → AboveAt (node_at (nodes e)) (up_of e) n
  above_at n = everywhere_all (At (node_at (nodes e)) (up_of e) (size e)) e
      (above_from (node_at (nodes e)) (up_of e) (size e) e 0 [] 0 (nodes_placed e) up_entries_held (omega arith) (inl refl))
      (λ k past l. absurd (omega arith)) n

  -- Nothing is above the first node.
  pub none_above_first : up_of e 0 ≡ 0
  none_above_first = own_entry (node_at (nodes e)) (up_of e) e 0 0 up_entries_held

-- A column that agrees with another on all nodes says the same of the parts.
pub parts_same : (tokens count : ℕ) (f g : ℕ → ℕ) → ((k : ℕ) → k < count → f k ≡ g k) → (n : ℕ) → n < count
    → (x : Node) → NodeInRange tokens count x → PartsUp g n x → PartsUp f n x
parts_same tokens count f g s n l epsilon_node w h = tt
parts_same tokens count f g s n l bottom_node w h = tt
parts_same tokens count f g s n l (token_node t) w h = tt
parts_same tokens count f g s n l (sequence_node a b) w h = (s a w.0 ∙ h.0, s b w.1 ∙ h.1 ∙ sym (s n l))
parts_same tokens count f g s n l (alternative_node a b) w h = (s a w.0 ∙ h.0 ∙ sym (s n l), s b w.1 ∙ h.1 ∙ sym (s n l))
parts_same tokens count f g s n l (fixed_point_node b) w h = s b w ∙ h ∙ sym (s n l)
parts_same tokens count f g s n l (variable_node v guarded) w h = tt
parts_same tokens count f g s n l (repetition_node b self) w h = s b w.0 ∙ h
