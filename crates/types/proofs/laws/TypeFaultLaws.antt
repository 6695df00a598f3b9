-- What is computed for questions 8 to 10 is what they ask in Figure 2's terms: the computed types are the least solution, the only one,
-- and the search finds the first node that fails. Of the two, a node that fails and none that does, exactly one is so.
use Rattle.std.specs.Prelude.{◌≡◌, Bool, List, ◌⊎◌, ◌↔◌, ℕ, ◌≤◌, length}
use Rattle.std.proofs.Math.Path.{refl, subst}
use Rattle.std.proofs.Common.{sym, ap, ap₂, ◌∙◌, inl, inr, arith, ext_get_or}
use Rattle.std.proofs.Math.Bool.{true, false, true≢false}
use Rattle.std.proofs.Math.Logic.{⊎_elim}
use Rattle.std.proofs.Math.Option.{Option, none, some}
use Rattle.std.proofs.lemmas.List.{length-map}
use Rattle.std.proofs.Math.ListN.{get_or-eq_default}
use Rattle.basics.proofs.laws.Order.{lt-or-le}
use Rattle.sheet.specs.Limits.{most_tokens}
use Rattle.sheet.specs.Expression.{Expression}
use Rattle.sheet.specs.WellFormed.{Closed}
use Rattle.types.specs.Types.{LanguageType, bottom_type, Separable, Apart, HasType}
use Rattle.types.specs.Nodes.{Node, epsilon_node, bottom_node, token_node, sequence_node, alternative_node, fixed_point_node, variable_node, repetition_node, nodes, node_at}
use Rattle.types.specs.LeastTypes.{type_of, node_type, least_types}
use Rattle.types.specs.LeastSolution.{LeastSolution}
use Rattle.types.specs.Solutions.{Solves}
use Rattle.types.proofs.laws.TypeLaws.{⊑_antisym}
use Rattle.types.proofs.laws.LeastTypeLaws.{least_below, least_solves}
use Rattle.types.specs.Questions.{Fault, separable, apart, unless, node_fault, type_fault}
use Rattle.types.proofs.laws.QuestionLaws.{separable_iff, apart_iff, PassesAt, no_fault_iff, type_fault-first}
use Rattle.types.proofs.laws.EachFrom.{each_member}
use Rattle.types.proofs.laws.Typing.{typed_iff}
use Rattle.types.specs.TypeFaults.{Fails, not_guarded, not_separable, not_apart, not_self_separable, TypeFault, NoTypeFault}

-- ---- one least solution

solution-length : (ns : List Node) (types : List LanguageType) → Solves ns types → length types ≡ length ns
solution-length ns types s = ap length s ∙ length-map ns (node_type types)

pub least_one : (ns : List Node) (xs ys : List LanguageType) → LeastSolution ns xs → LeastSolution ns ys → xs ≡ ys
least_one ns xs ys x y = ext_get_or bottom_type xs ys (solution-length ns xs x.solves ∙ sym (solution-length ns ys y.solves))
    (λ n l. ⊑_antisym (x.below ys y.solves n) (y.below xs x.solves n))

-- ---- one node's question

module _ (types : List LanguageType) where
  -- What a node's own answer means.
  abbrev Means : Node → ℕ → Option Fault → Type 0
  Means x p none = (question : ℕ) → Fails types x question → ⊥
  Means x p (some f) = Fails types x f.number

  unless_means : (x : Node) (b : Bool) (number p : ℕ) → (b ≡ true → (question : ℕ) → Fails types x question → ⊥)
      → (b ≡ false → Fails types x number) → Means x p (unless b number p)
  unfolding unless
  unless_means x true number p f g = f refl
  unless_means x false number p f g = g refl

  sequence_passes : (l r : ℕ) → Separable (type_of types l) (type_of types r) → (question : ℕ) → Fails types (sequence_node l r) question → ⊥
  sequence_passes l r s question (not_separable n) = n s

  alternative_passes : (l r : ℕ) → Apart (type_of types l) (type_of types r) → (question : ℕ) → Fails types (alternative_node l r) question → ⊥
  alternative_passes l r s question (not_apart n) = n s

  repetition_passes : (b self : ℕ) → Separable (type_of types b) (type_of types b) → (question : ℕ)
      → Fails types (repetition_node b self) question → ⊥
  repetition_passes b self s question (not_self_separable n) = n s

  node_means : (x : Node) (p : ℕ) → Means x p (node_fault types x p)
  unfolding node_fault unless
  node_means epsilon_node p = λ q x. elim x [ ]
  node_means bottom_node p = λ q x. elim x [ ]
  node_means (token_node t) p = λ q x. elim x [ ]
  node_means (sequence_node l r) p =
      let a = type_of types l in let b = type_of types r in
      unless_means (sequence_node l r) (separable a b) 9 p (λ e. sequence_passes l r ((separable_iff a b).0 e))
      (λ e. not_separable (λ s. true≢false (sym ((separable_iff a b).1 s) ∙ e)))
  node_means (alternative_node l r) p =
      let a = type_of types l in let b = type_of types r in
      unless_means (alternative_node l r) (apart a b) 10 p (λ e. alternative_passes l r ((apart_iff a b).0 e))
      (λ e. not_apart (λ s. true≢false (sym ((apart_iff a b).1 s) ∙ e)))
  node_means (fixed_point_node b) p = λ q x. elim x [ ]
  node_means (variable_node f true) p = λ q x. elim x [ ]
  node_means (variable_node f false) p = not_guarded
  node_means (repetition_node b self) p =
      let a = type_of types b in
      unless_means (repetition_node b self) (separable a a) 9 p (λ e. repetition_passes b self ((separable_iff a a).0 e))
      (λ e. not_self_separable (λ s. true≢false (sym ((separable_iff a a).1 s) ∙ e)))

  -- A node fails one question at most, and past the last node there is none that fails.
  fails_one : {x : Node} {n m : ℕ} → Fails types x n → Fails types x m → n ≡ m
  fails_one not_guarded not_guarded = refl
  fails_one (not_separable a) (not_separable b) = refl
  fails_one (not_apart a) (not_apart b) = refl
  fails_one (not_self_separable a) (not_self_separable b) = refl

  bottom_passes : (question : ℕ) → Fails types bottom_node question → ⊥
  bottom_passes question x = elim x [ ]

-- ---- the answer has one meaning

-- Two first failing nodes are one.
pub type_fault_one : {e : Expression} {n m p q : ℕ} → TypeFault e n p → TypeFault e m q → (n ≡ m) × (p ≡ q)
type_fault_one {e} {n} {m} {p} {q} s t = (at, fails_one s.types s.fails (subst (λ i. Fails s.types (node_at (nodes e) i) q) (sym at) other))
  where
    same : t.types ≡ s.types
    same = least_one (nodes e) t.types s.types t.least s.least

    other : Fails s.types (node_at (nodes e) m) q
    other = subst (λ (types : List LanguageType). Fails types (node_at (nodes e) m) q) same t.fails

    at : n ≡ m
    at = ⊎_elim (λ l. absurd (t.first n p l (subst (λ (types : List LanguageType). Fails types (node_at (nodes e) n) p) (sym same) s.fails)))
        (λ l. ⊎_elim (λ k. absurd (s.first m q k other)) (λ k. omega arith) (lt-or-le m n)) (lt-or-le n m)

-- One that fails, and none that does.
pub not_both : {e : Expression} {n p : ℕ} → TypeFault e n p → NoTypeFault e → ⊥
not_both {e} {n} {p} s t = t.none_fails n p (subst (λ (types : List LanguageType). Fails types (node_at (nodes e) n) p)
    (least_one (nodes e) s.types t.types s.least t.least) s.fails)

module _ (tokens : ℕ) (within : tokens ≤ most_tokens) (e : Expression) (closed : Closed tokens 0 e) where
  -- The computed types are the least solution.
  pub least_is : LeastSolution (nodes e) (least_types e)
  least_is = record { solves = least_solves tokens within e closed; below = least_below e }

  no_fault_means : type_fault e ≡ none → (m question : ℕ) → Fails (least_types e) (node_at (nodes e) m) question → ⊥
  unfolding type_fault
  no_fault_means h m question = ⊎_elim
      (λ l. let x : PassesAt (least_types e) m (node_at (nodes e) m) =
      each_member (PassesAt (least_types e)) bottom_node (nodes e) ((no_fault_iff (least_types e) (nodes e) 0).0 h) m l in
      subst (Means (least_types e) (node_at (nodes e) m) m) x (node_means (least_types e) (node_at (nodes e) m) m) question)
      (λ l. rw (get_or-eq_default (nodes e) bottom_node {n = m} l) (bottom_passes (least_types e) question))
      (lt-or-le m (length (nodes e)))

  fault_means : (f : Fault) → type_fault e ≡ some f → TypeFault e f.node f.number
  fault_means f h =
      let r = type_fault-first e f h in
      let x = node_at (nodes e) f.node in
      record {
        types = least_types e;
        least = least_is;
        fails = subst (Means (least_types e) x f.node) r.fails (node_means (least_types e) x f.node);
        first = λ m other l. subst (Means (least_types e) (node_at (nodes e) m) m) (r.earlier m l)
            (node_means (least_types e) (node_at (nodes e) m) m) other;
      }

  -- What is computed is the first node that fails, with its question; and nothing where none fails.
  pub type_fault_is : (f : Fault) → (type_fault e ≡ some f) ↔ TypeFault e f.node f.number
  type_fault_is f = (fault_means f, λ t. go t (type_fault e) refl)
    where
      go : TypeFault e f.node f.number → (o : Option Fault) → type_fault e ≡ o → o ≡ some f
      go t none h = absurd (not_both t (record { types = least_types e; least = least_is; none_fails = no_fault_means h }))
      go t (some g) h = let s = type_fault_one (fault_means g h) t in
          ap some (ap₂ (λ number node. record { number = number; node = node }) s.1 s.0)

  pub no_type_fault_is : (type_fault e ≡ none) ↔ NoTypeFault e
  no_type_fault_is = (λ h. record { types = least_types e; least = least_is; none_fails = no_fault_means h }, λ t. go t (type_fault e) refl)
    where
      go : NoTypeFault e → (o : Option Fault) → type_fault e ≡ o → o ≡ none
      go t none h = refl
      go t (some g) h = absurd (not_both (fault_means g h) t)

  -- "A least type that fails a side condition means that no annotation passes."
  pub typed_or_fault : ((n : ℕ) × (question : ℕ) × TypeFault e n question) ⊎ HasType e
  typed_or_fault = go (type_fault e) refl
    where
      go : (o : Option Fault) → type_fault e ≡ o → ((n : ℕ) × (question : ℕ) × TypeFault e n question) ⊎ HasType e
      go none h = inr ((typed_iff tokens within e closed).0 h)
      go (some f) h = inl (f.node, f.number, fault_means f h)

  pub typed_no_type_fault : HasType e ↔ NoTypeFault e
  typed_no_type_fault = (
    λ t. no_type_fault_is.0 ((typed_iff tokens within e closed).1 t),
    λ t. (typed_iff tokens within e closed).0 (no_type_fault_is.1 t),
  )

  pub fault_not_typed : {n question : ℕ} → TypeFault e n question → HasType e → ⊥
  fault_not_typed t h = not_both t (typed_no_type_fault.0 h)
