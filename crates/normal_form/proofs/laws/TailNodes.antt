-- The nodes that stand in tails: right parts of sequences, and repetitions. Beside the start a typed expression has fewer than half as
-- many of them as nodes: what stands left of a sequence or below a repetition is not nullable, and so is no repetition.
use Rattle.std.specs.Prelude.{◌≡◌, refl, Bool, true, false, ◌&&◌, ℕ, suc, ◌+◌, ◌*◌, ◌≤◌, length}
use Rattle.std.proofs.Common.{ap, subst, true≢false, arith, length-append}
use mathlib.Core.List.Memᴰ
use mathlib.Core.List.{List, [], ◌∷◌, ◌++◌, Memᴰ}
use Rattle.std.proofs.Math.ListN.{get_or-eq_default}
use Rattle.basics.specs.Lists.{All}
use Rattle.basics.proofs.laws.Members.{all-append}
use Rattle.sheet.specs.Expression.{Expression, epsilon, bottom, token, sequence, alternative, fixed_point, variable, repetition, size}
use Rattle.types.specs.Types.{LanguageType, epsilon_type, alternative_type, repetition_type_with, ◌⊢◌∶◌, type_epsilon, type_bottom, type_token, type_variable, type_sequence, type_alternative, type_fixed_point, type_repetition}
use Rattle.types.specs.TypeNames.{Context}
use Rattle.types.proofs.laws.SetOrder.{flag, flag_most}
use Rattle.types.specs.Nodes.{Node, epsilon_node, bottom_node, token_node, sequence_node, alternative_node, fixed_point_node, variable_node, repetition_node, nodes, node_at}
use Rattle.normal_form.specs.Productions.{Production, row_of, ended_by, rows}
use Rattle.normal_form.specs.NormalForm.{normal_form}
use Rattle.normal_form.proofs.laws.KeptRows.{kept-production}
use Rattle.normal_form.proofs.laws.Unfolding.{◌of◌}
use Rattle.normal_form.proofs.laws.Places.{Placed, nodes_placed, nodes-count, Everywhere, everywhere_all}
use Rattle.normal_form.proofs.laws.Tails.{every_production}

-- What a node adds to tails: a sequence its right part, a repetition itself.
abbrev added : Node → List ℕ
added epsilon_node = []
added bottom_node = []
added (token_node t) = []
added (sequence_node l r) = r ∷ []
added (alternative_node l r) = []
added (fixed_point_node b) = []
added (variable_node f guarded) = []
added (repetition_node b self) = self ∷ []

-- A repetition's own node, before others.
abbrev with_own : Expression → ℕ → List ℕ → List ℕ
with_own epsilon p l = l
with_own bottom p l = l
with_own (token k) p l = l
with_own (sequence g h) p l = l
with_own (alternative g h) p l = l
with_own (fixed_point g) p l = l
with_own (variable n) p l = l
with_own (repetition g) p l = p ∷ l

-- The nodes below g's own, which is p, that are added to tails, each once.
abbrev pub tail_nodes : Expression → ℕ → List ℕ
tail_nodes epsilon p = []
tail_nodes bottom p = []
tail_nodes (token k) p = []
tail_nodes (sequence g h) p = with_own g (suc p) (tail_nodes g (suc p)) ++ ((suc p + size g) ∷ tail_nodes h (suc p + size g))
tail_nodes (alternative g h) p =
    with_own g (suc p) (tail_nodes g (suc p)) ++ with_own h (suc p + size g) (tail_nodes h (suc p + size g))
tail_nodes (fixed_point g) p = with_own g (suc p) (tail_nodes g (suc p))
tail_nodes (variable n) p = []
tail_nodes (repetition g) p = with_own g (suc p) (tail_nodes g (suc p))

-- ---- each tail's members are among them

own_within : (g : Expression) (p : ℕ) (l : List ℕ) (r : ℕ) → Memᴰ r (with_own g p l) → Memᴰ r (p ∷ l)
own_within epsilon p l r m = Memᴰ.tail m
own_within bottom p l r m = Memᴰ.tail m
own_within (token k) p l r m = Memᴰ.tail m
own_within (sequence g h) p l r m = Memᴰ.tail m
own_within (alternative g h) p l r m = Memᴰ.tail m
own_within (fixed_point g) p l r m = Memᴰ.tail m
own_within (variable n) p l r m = Memᴰ.tail m
own_within (repetition g) p l r m = m

module _ (table : ℕ → Node) (all : List ℕ) where
  abbrev AddedListed : ℕ → Type 0
  AddedListed n = All (λ r. Memᴰ r all) (added (table n))

  listed : (g : Expression) (p : ℕ) (fs : List ℕ) → Placed table g p fs
      → ((r : ℕ) → Memᴰ r (with_own g p (tail_nodes g p)) → Memᴰ r all) → Everywhere AddedListed g p
  listed epsilon p fs t f = rw t tt
  listed bottom p fs t f = rw t tt
  listed (token k) p fs t f = rw t tt
  listed (sequence g h) p fs t f =
      let l = with_own g (suc p) (tail_nodes g (suc p)) in
      let n = suc p + size g in (
        rw t.0 (f n (Memᴰ.append_right l (Memᴰ.head refl)), tt),
        listed g (suc p) fs t.1 (λ r m. f r (Memᴰ.append_left (n ∷ tail_nodes h n) m)),
        listed h n fs t.2 (λ r m. f r (Memᴰ.append_right l (own_within h n (tail_nodes h n) r m))),
      )
  listed (alternative g h) p fs t f =
      let l = with_own g (suc p) (tail_nodes g (suc p)) in
      let n = suc p + size g in (
        rw t.0 tt,
        listed g (suc p) fs t.1 (λ r m. f r (Memᴰ.append_left (with_own h n (tail_nodes h n)) m)),
        listed h n fs t.2 (λ r m. f r (Memᴰ.append_right l m)),
      )
  listed (fixed_point g) p fs t f = (rw t.0 tt, listed g (suc p) (p ∷ fs) t.1 f)
  listed (variable n) p fs t f = rw t.1 tt
  listed (repetition g) p fs t f =
      (rw t.0 (f p (Memᴰ.head refl), tt), listed g (suc p) fs t.1 (λ r m. f r (Memᴰ.tail m)))

-- Every member of every tail is the start, a right part or a repetition.
pub tails_within : (e : Expression) (n : ℕ) (q : Production) → q of row_of (normal_form e) n
    → All (λ r. Memᴰ r (0 ∷ tail_nodes e 0)) q.tail
tails_within e n q m = unfold rows in
    every_production (nodes e) Within (λ n t h. tt) (λ n l r h. one_more n r (ap added h)) (λ n b r h. one_more n r (ap added h))
    (length (nodes e)) n q (kept-production e n q m).0
  where
    Within : Production → Type 0
    Within q = All (λ r. Memᴰ r (0 ∷ tail_nodes e 0)) q.tail

    at_node : (n : ℕ) → AddedListed (node_at (nodes e)) (0 ∷ tail_nodes e 0) n
    at_node = everywhere_all (AddedListed (node_at (nodes e)) (0 ∷ tail_nodes e 0)) e
        (listed (node_at (nodes e)) (0 ∷ tail_nodes e 0) e 0 [] (nodes_placed e) (own_within e 0 (tail_nodes e 0)))
        (λ n h. rw (get_or-eq_default (nodes e) bottom_node {n = n} (rw (nodes-count e) h)) tt)

    one_more : (n r : ℕ) → added (node_at (nodes e) n) ≡ r ∷ [] → (q : Production) → Within q → Within (ended_by r q)
    one_more n r h q x = unfold ended_by in
        all-append (λ r. Memᴰ r (0 ∷ tail_nodes e 0)) q.tail (r ∷ []) x
        (subst (All (λ r. Memᴰ r (0 ∷ tail_nodes e 0))) h (at_node n))

-- ---- how many they are

-- 1 for a repetition.
abbrev own_count : Expression → ℕ
own_count g = length (with_own g 0 [])

own-length : (g : Expression) (p : ℕ) (l : List ℕ) → length (with_own g p l) ≡ own_count g + length l
own-length epsilon p l = omega arith
own-length bottom p l = omega arith
own-length (token k) p l = omega arith
own-length (sequence g h) p l = omega arith
own-length (alternative g h) p l = omega arith
own-length (fixed_point g) p l = omega arith
own-length (variable n) p l = omega arith
own-length (repetition g) p l = omega arith

-- A repetition is nullable.
own_null : {Γ : Context} {g : Expression} {a : LanguageType} → Γ ⊢ g ∶ a → own_count g ≤ flag a.null
unfolding flag repetition_type_with alternative_type epsilon_type
own_null type_epsilon = omega arith
own_null type_bottom = omega arith
own_null (type_token t) = omega arith
own_null (type_variable u) = omega arith
own_null (type_sequence d e s) = omega arith
own_null (type_alternative d e s) = omega arith
own_null (type_fixed_point d) = omega arith
own_null (type_repetition {b = b} d s e) =
    let one : flag b.null ≡ 1 = ap (λ (x : LanguageType). flag x.null) e in omega arith

not_null_none : {Γ : Context} {g : Expression} {a : LanguageType} → Γ ⊢ g ∶ a → a.null ≡ false → own_count g ≤ 0
unfolding flag
not_null_none {g = g} d e = subst (λ (b : Bool). own_count g ≤ flag b) e (own_null d)

one_of_two : (a b : Bool) → (a && b) ≡ false → flag a + flag b ≤ 1
unfolding flag
one_of_two true true e = absurd (true≢false e)
one_of_two true false e = omega arith
one_of_two false true e = omega arith
one_of_two false false e = omega arith

few_added : {Γ : Context} {g : Expression} {a : LanguageType} → Γ ⊢ g ∶ a → (p : ℕ) → 2 * length (tail_nodes g p) + 1 + own_count g ≤ size g
unfolding size
few_added type_epsilon p = omega arith
few_added type_bottom p = omega arith
few_added (type_token t) p = omega arith
few_added (type_variable u) p = omega arith
few_added (type_sequence {g = g} {h = h} d e s) p =
    let l = with_own g (suc p) (tail_nodes g (suc p)) in
    omega (
      arith,
      few_added d (suc p),
      few_added e (suc p + size g),
      not_null_none d s.not_null,
      own-length g (suc p) (tail_nodes g (suc p)),
      length-append l ((suc p + size g) ∷ tail_nodes h (suc p + size g)),
    )
few_added (type_alternative {g = g} {h = h} {a = a} {b = b} d e s) p =
    let l = with_own g (suc p) (tail_nodes g (suc p)) in
    let r = with_own h (suc p + size g) (tail_nodes h (suc p + size g)) in
    omega (
      arith,
      few_added d (suc p),
      few_added e (suc p + size g),
      own_null d,
      own_null e,
      one_of_two a.null b.null s.one_null,
      own-length g (suc p) (tail_nodes g (suc p)),
      own-length h (suc p + size g) (tail_nodes h (suc p + size g)),
      length-append l r,
    )
few_added (type_fixed_point {g = g} {a = a} d) p =
    omega (arith, few_added d (suc p), own-length g (suc p) (tail_nodes g (suc p)), own_null d, flag_most a.null)
few_added (type_repetition {g = g} d s e) p =
    omega (arith, few_added d (suc p), not_null_none d s.not_null, own-length g (suc p) (tail_nodes g (suc p)))

-- Fewer than half of the nodes.
pub tail_nodes_few : {e : Expression} {a : LanguageType} → [] ⊢ e ∶ a → 2 * length (tail_nodes e 0) + 1 ≤ size e
tail_nodes_few d = omega (arith, few_added d 0)
