-- What an expression's table says of a node and its parts: which kind it is, where its parts stand, and which part begins with a token; and
-- the tokens left at the end of their array. Nothing is said of what comes after the node.
use Rattle.std.specs.Prelude.{◌≡◌, refl, Bool, ◌&&◌, ◌⊎◌, ℕ, suc, ◌+◌, ◌-◌, ◌≤◌, ◌<◌, eqb, ltb, length, get_or, drop}
use Rattle.std.proofs.Math.Path.{sym, subst}
use Rattle.std.proofs.Common.{ap, ◌∙◌, true≢false, inl, inr, ⊎_elim, length-drop, drop_of_length-le, drop-cons}
use Rattle.std.proofs.Math.Bool.{true, false, cond}
use mathlib.Core.List.{List, [], ◌∷◌, ◌++◌, cons≢nil, head-eq_of_cons-eq}
use native.Mathlib.Omega.{arith}
use Rattle.std.proofs.Math.ListN.{get_or-eq_default}
use borrow.Author.Tests.{lt-ltb, le-ltb, ne_eqb}
use Rattle.basics.specs.Bits.{bit}
use Rattle.basics.proofs.laws.BitLaws.{bit_high}
use Rattle.basics.proofs.laws.Order.{lt-or-le}
use Rattle.sheet.specs.Expression.{Expression, epsilon, bottom, token, sequence, alternative, fixed_point, variable, repetition, size}
use Rattle.types.specs.Languages.{HasWord, Begins}
use Rattle.types.specs.NodeLanguages.{language_of}
use Rattle.types.specs.Nodes.{Node, epsilon_node, bottom_node, token_node, sequence_node, alternative_node, fixed_point_node, variable_node, repetition_node, nodes, node_at}
use Rattle.types.specs.Types.{HasType}
use Rattle.types.proofs.laws.NodeRanges.{size_positive}
use Rattle.normal_form.proofs.laws.NodeLanguages.{languages_past}
use Rattle.normal_form.proofs.laws.Places.{Placed, nodes_placed, Everywhere, everywhere_all, nodes-count}
use Rattle.columns.specs.HeldNodes.{node_of}
use Rattle.recogniser.proofs.laws.DescentRuns.{words_are, left_not_empty, part-not_empty}
use Rattle.descent_table.specs.TableOf.{tag_at, link_at, first_at, TableOf}
use Rattle.descent.specs.Steps.{last, begins_with}

-- ---- where parts stand

-- The parts of node n are nodes, and a second part stands after it too.
abbrev pub PartsWithin : ℕ → ℕ → Node → Type 0
PartsWithin total n epsilon_node = Unit
PartsWithin total n bottom_node = Unit
PartsWithin total n (token_node t) = Unit
PartsWithin total n (sequence_node l r) = (l < total) × (n < r) × (r < total)
PartsWithin total n (alternative_node l r) = (l < total) × (n < r) × (r < total)
PartsWithin total n (fixed_point_node b) = b < total
PartsWithin total n (variable_node f guarded) = Unit
PartsWithin total n (repetition_node b self) = b < total

module _ (table : ℕ → Node) (total : ℕ) where
  abbrev Within : ℕ → Type 0
  Within n = PartsWithin total n (table n)

  placed_within : (g : Expression) (p : ℕ) (fs : List ℕ) → Placed table g p fs → p + size g ≤ total → Everywhere Within g p
  unfolding size
  placed_within epsilon p fs h l = rw h tt
  placed_within bottom p fs h l = rw h tt
  placed_within (token k) p fs h l = rw h tt
  placed_within (sequence g k) p fs h l = (
    rw h.0 (omega (arith, size_positive g, size_positive k), omega arith, omega (arith, size_positive g, size_positive k)),
    placed_within g (suc p) fs h.1 (omega arith),
    placed_within k (suc p + size g) fs h.2 (omega arith),
  )
  placed_within (alternative g k) p fs h l = (
    rw h.0 (omega (arith, size_positive g, size_positive k), omega arith, omega (arith, size_positive g, size_positive k)),
    placed_within g (suc p) fs h.1 (omega arith),
    placed_within k (suc p + size g) fs h.2 (omega arith),
  )
  placed_within (fixed_point g) p fs h l =
      (rw h.0 (omega (arith, size_positive g)), placed_within g (suc p) (p ∷ fs) h.1 (omega arith))
  placed_within (variable n) p fs h l = rw h.1 tt
  placed_within (repetition g) p fs h l =
      (rw h.0 (omega (arith, size_positive g)), placed_within g (suc p) fs h.1 (omega arith))

pub parts_within : (e : Expression) (n : ℕ) {x : Node} → node_at (nodes e) n ≡ x → PartsWithin (size e) n x
parts_within e n h = subst (PartsWithin (size e) n) h (everywhere_all (λ i. PartsWithin (size e) i (node_at (nodes e) i)) e
    (placed_within (node_at (nodes e)) (size e) e 0 [] (nodes_placed e) (omega arith)) (λ i l. past i l) n)
  where
    past : (i : ℕ) → size e ≤ i → PartsWithin (size e) i (node_at (nodes e) i)
    past i l = rw (get_or-eq_default (nodes e) bottom_node {n = i} (rw (nodes-count e) l)) tt

-- A node with a word is a node.
pub word_inside : (e : Expression) (n : ℕ) → HasWord (language_of e n) → n < size e
word_inside e n w = ⊎_elim (λ l. l) (λ l. absurd (subst (λ L. L w.0) (languages_past e n l) w.1)) (lt-or-le n (size e))

-- ---- which kind of node it is

module _ {e : Expression} {table : List ℕ} (held : TableOf e table) (n : ℕ) (is_node : n < size e) where
  by_tag : (tag : ℕ) → tag_at table n ≡ tag → (guarded : Bool) × (node_of tag (link_at table n) guarded n ≡ node_at (nodes e) n)
  by_tag tag h = let x = held.nodes_held n is_node in (
    x.0,
    subst (λ t. node_of t (link_at table n) x.0 n ≡ node_at (nodes e) n) h
        x.1,
  )

  pub token_at : tag_at table n ≡ 2 → node_at (nodes e) n ≡ token_node (link_at table n)
  unfolding node_of
  token_at h = sym (by_tag 2 h).1

  pub sequence_at : tag_at table n ≡ 3 → node_at (nodes e) n ≡ sequence_node (suc n) (link_at table n)
  unfolding node_of
  sequence_at h = sym (by_tag 3 h).1

  pub alternative_at : tag_at table n ≡ 4 → node_at (nodes e) n ≡ alternative_node (suc n) (link_at table n)
  unfolding node_of
  alternative_at h = sym (by_tag 4 h).1

  pub fixed_point_at : tag_at table n ≡ 5 → node_at (nodes e) n ≡ fixed_point_node (suc n)
  unfolding node_of
  fixed_point_at h = sym (by_tag 5 h).1

  pub variable_at : tag_at table n ≡ 6 → (guarded : Bool) × (node_at (nodes e) n ≡ variable_node (link_at table n) guarded)
  unfolding node_of
  variable_at h = let x = by_tag 6 h in (x.0, sym x.1)

  pub repetition_at : tag_at table n ≡ 7 → node_at (nodes e) n ≡ repetition_node (suc n) (link_at table n)
  unfolding node_of
  repetition_at h = sym (by_tag 7 h).1

-- ---- which part begins with a token

module _ {e : Expression} (h : HasType e) where
  -- A node of any other kind begins with no token.
  pub bare_never : {table : List ℕ} (held : TableOf e table) (n t tag : ℕ) → n < size e → tag_at table n ≡ tag → (tag ≡ 2 → ⊥)
      → (tag ≡ 3 → ⊥)
      → (tag ≡ 4 → ⊥) → (tag ≡ 5 → ⊥) → (tag ≡ 6 → ⊥) → (tag ≡ 7 → ⊥) → Begins (language_of e n) t → ⊥
  unfolding node_of
  bare_never {table} held n t tag is_node z n2 n3 n4 n5 n6 n7 b =
      let x = held.nodes_held n is_node in
      let y : node_of tag (link_at table n) x.0 n ≡ node_at (nodes e) n
      = subst (λ i. node_of i (link_at table n) x.0 n ≡ node_at (nodes e) n) z x.1 in
      let same = rw (ne_eqb tag 2 n2, ne_eqb tag 3 n3, ne_eqb tag 4 n4, ne_eqb tag 5 n5, ne_eqb tag 6 n6, ne_eqb tag 7 n7) at y in
      go (eqb tag 0) (eqb tag 1) (sym same)
    where
      go : (p q : Bool) → node_at (nodes e) n ≡ cond p epsilon_node (cond q bottom_node bottom_node) → ⊥
      go true q y = cons≢nil ((words_are h.1 n y (t ∷ b.0)).0 b.1)
      go false true y = (words_are h.1 n y (t ∷ b.0)).0 b.1
      go false false y = (words_are h.1 n y (t ∷ b.0)).0 b.1

  pub token_begins : (n c t : ℕ) → node_at (nodes e) n ≡ token_node c → Begins (language_of e n) t → c ≡ t
  token_begins n c t z b = sym (head-eq_of_cons-eq ((words_are h.1 n z (t ∷ b.0)).0 b.1))

  front_begins : (l t : ℕ) (u v w : List ℕ) → (language_of e l [] → ⊥) → t ∷ w ≡ u ++ v → language_of e l u → Begins (language_of e l) t
  front_begins l t [] v w never z x = absurd (never x)
  front_begins l t (c ∷ u) v w never z x = (u, subst (λ i. language_of e l (i ∷ u)) (sym (head-eq_of_cons-eq z)) x)

  -- The left part of a sequence that begins with t begins with it, and both parts have words.
  pub sequence_begins : (n l r t : ℕ) → node_at (nodes e) n ≡ sequence_node l r → Begins (language_of e n) t
      → Begins (language_of e l) t × HasWord (language_of e r)
  sequence_begins n l r t z b = let v = (words_are h.1 n z (t ∷ b.0)).0 b.1 in
      (front_begins l t v.0 v.1 b.0 (left_not_empty h.1 n l r z) v.2 v.3, (v.1, v.4))

  pub alternative_begins : (n l r t : ℕ) → node_at (nodes e) n ≡ alternative_node l r → Begins (language_of e n) t
      → Begins (language_of e l) t ⊎ Begins (language_of e r) t
  alternative_begins n l r t z b = ⊎_elim (λ x. inl (b.0, x)) (λ x. inr (b.0, x)) ((words_are h.1 n z (t ∷ b.0)).0 b.1)

  pub body_begins : (n b t : ℕ) → node_at (nodes e) n ≡ fixed_point_node b → Begins (language_of e n) t → Begins (language_of e b) t
  body_begins n b t z x = (x.0, (words_are h.1 n z (t ∷ x.0)).0 x.1)

  pub variable_begins : (n f t : ℕ) (guarded : Bool) → node_at (nodes e) n ≡ variable_node f guarded → Begins (language_of e n) t
      → Begins (language_of e f) t
  variable_begins n f t guarded z x = (x.0, (words_are h.1 n z (t ∷ x.0)).0 x.1)

  pub part_begins : (n b self t : ℕ) → node_at (nodes e) n ≡ repetition_node b self → Begins (language_of e n) t
      → Begins (language_of e b) t
  part_begins n b self t z x = ⊎_elim (λ y. absurd (cons≢nil y))
      (λ v. front_begins b t v.0 v.1 x.0 (part-not_empty h.1 n b self z) v.2 v.3)
      ((words_are h.1 n z (t ∷ x.0)).0 x.1)

-- ---- the tokens left

-- The next of the last k entries.
pub last-front : (tokens : List ℕ) (k : ℕ) → length tokens ≡ 2048 → 1 ≤ k → k ≤ 2048
    → last tokens k ≡ get_or tokens (2048 - k) 0 ∷ last tokens (k - 1)
last-front tokens k long some few =
    let a : 2048 - k < length tokens = omega arith in
    let b : suc (2048 - k) ≡ 2048 - (k - 1) = omega arith in
    drop-cons tokens (2048 - k) 0 a ∙ ap (λ i. get_or tokens (2048 - k) 0 ∷ drop i tokens) b

pub last-none : (tokens : List ℕ) → length tokens ≡ 2048 → last tokens 0 ≡ []
last-none tokens long = drop_of_length-le tokens {i = 2048} (omega arith)

pub last-count : (tokens : List ℕ) (k : ℕ) → length tokens ≡ 2048 → k ≤ 2048 → length (last tokens k) ≡ k
last-count tokens k long few = let a = length-drop (2048 - k) tokens in omega arith

-- The test by its parts, as code has it.
pub begins_none : (table tokens : List ℕ) (n k : ℕ) → k ≡ 0 → false ≡ begins_with table tokens n k
unfolding begins_with
begins_none table tokens n k z =
    sym (ap (λ q. q && (ltb (get_or tokens (2048 - k) 0) 64 && bit (first_at table n) (get_or tokens (2048 - k) 0)))
    (le-ltb 0 k (omega (arith, z))))

pub begins_past : (table tokens : List ℕ) (n k : ℕ) → (k ≡ 0 → ⊥) → 64 ≤ get_or tokens (2048 - k) 0 → false ≡ begins_with table tokens n k
unfolding begins_with
begins_past table tokens n k some far = rw (lt-ltb 0 k (omega (arith, some)))
    (sym (ap (λ q. q && bit (first_at table n) (get_or tokens (2048 - k) 0)) (le-ltb (get_or tokens (2048 - k) 0) 64 far)))

pub begins_has : (table tokens : List ℕ) (n k : ℕ) → (k ≡ 0 → ⊥) → get_or tokens (2048 - k) 0 < 64
    → bit (first_at table n) (get_or tokens (2048 - k) 0) ≡ begins_with table tokens n k
unfolding begins_with
begins_has table tokens n k some near = rw (lt-ltb 0 k (omega (arith, some)), lt-ltb (get_or tokens (2048 - k) 0) 64 near) refl

-- The test is the language's: of a node, where a token is left.
module _ {e : Expression} {table : List ℕ} (held : TableOf e table) (tokens : List ℕ) (n k : ℕ) (is_node : n < size e) where
  abbrev t : ℕ
  t = get_or tokens (2048 - k) 0

  pub begun_some : begins_with table tokens n k ≡ true → (1 ≤ k) × Begins (language_of e n) (get_or tokens (2048 - k) 0)
  begun_some z = ⊎_elim
      (λ some. ⊎_elim
      (λ near. (omega (arith, some), (held.first_held n t is_node).0 (begins_has table tokens n k (λ y. omega (arith, some, y)) near ∙ z)))
      (λ far. absurd (true≢false (sym z ∙ sym (begins_past table tokens n k (λ y. omega (arith, some, y)) far)))) (lt-or-le t 64))
      (λ none. absurd (true≢false (sym z ∙ sym (begins_none table tokens n k (omega (arith, none)))))) (lt-or-le 0 k)

  pub not_begun : begins_with table tokens n k ≡ false → 1 ≤ k → Begins (language_of e n) (get_or tokens (2048 - k) 0) → ⊥
  not_begun z some b = let set = (held.first_held n t is_node).1 b in true≢false (sym set
      ∙ ⊎_elim (λ near. begins_has table tokens n k (λ y. omega (arith, some, y)) near ∙ z)
      (λ far. bit_high 64 (first_at table n) t (held.first_few n is_node) far) (lt-or-le t 64))
