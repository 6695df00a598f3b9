-- What the answers to questions 8 to 10 mean: the tests are Figure 2's side conditions, no fault means that every node passes,
-- and a fault stands at the first node in sheet order that fails.
use Rattle.std.specs.Prelude.{◌≡◌, refl, Bool, true, false, not, ◌&&◌, List, [], ◌∷◌, ◌↔◌, ℕ, zero, suc, ◌+◌, ◌<◌, eqb, length}
use Rattle.std.proofs.Common.{sym, ap, ap₂, subst, ◌∙◌, true≢false, ⊎_elim, arith, add-zero, eq-eqb, eqb-true}
use Rattle.std.proofs.Math.Option.{Option, none, some}
use Rattle.std.specs.Int.Bits.{bit_and}
use Rattle.std.proofs.Math.ListN.{get_or-eq_default}
use Rattle.std.proofs.lemmas.Bool.{not-true}
use Rattle.basics.proofs.laws.Truth.{and-true-first, and-true-second}
use Rattle.basics.specs.Lists.{or_else}
use Rattle.basics.proofs.laws.Order.{lt-or-le}
use Rattle.sheet.specs.Expression.{Expression}
use Rattle.types.specs.Types.{LanguageType, Separable, Apart}
use Rattle.types.specs.Nodes.{Node, epsilon_node, bottom_node, token_node, sequence_node, alternative_node, fixed_point_node, variable_node, repetition_node, nodes, node_at}
use Rattle.types.specs.LeastTypes.{type_of, least_types}
use Rattle.types.specs.Questions.{Fault, separable, apart, unless, node_fault, first_fault, type_fault}
use Rattle.types.proofs.laws.TypeLaws.{separable_falls, apart_falls}
use Rattle.types.specs.Solutions.{AllBelow}
use Rattle.types.proofs.laws.EachFrom.{EachFrom, each_member}

-- The tests.
pub separable_iff : (a b : LanguageType) → (separable a b ≡ true) ↔ Separable a b
unfolding separable
separable_iff a b = (
  λ e. record {
    disjoint = eqb-true (bit_and a.flast b.first) 0 (and-true-first (eqb (bit_and a.flast b.first) 0) (not a.null) e);
    not_null = not-true a.null (and-true-second (eqb (bit_and a.flast b.first) 0) (not a.null) e);
  },
  λ s. ap₂ ◌&&◌ (eq-eqb (bit_and a.flast b.first) 0 s.disjoint) (ap not s.not_null),
)

pub apart_iff : (a b : LanguageType) → (apart a b ≡ true) ↔ Apart a b
unfolding apart
apart_iff a b = (
  λ e. record {
    disjoint = eqb-true (bit_and a.first b.first) 0 (and-true-first (eqb (bit_and a.first b.first) 0) (not (a.null && b.null)) e);
    one_null = not-true (a.null && b.null) (and-true-second (eqb (bit_and a.first b.first) 0) (not (a.null && b.null)) e);
  },
  λ s. ap₂ ◌&&◌ (eq-eqb (bit_and a.first b.first) 0 s.disjoint) (ap not s.one_null),
)

pub unless_iff : (passes : Bool) (number p : ℕ) → (unless passes number p ≡ none) ↔ (passes ≡ true)
unfolding unless
unless_iff true number p = (λ e. refl, λ e. refl)
unless_iff false number p = (λ e. cc, λ e. absurd (true≢false (sym e)))

-- The node x at place p passes the question that it is asked.
abbrev pub PassesAt : List LanguageType → ℕ → Node → Type 0
PassesAt types p x = node_fault types x p ≡ none

-- What passes with larger types passes with smaller ones.
separable_still : (xs ys : List LanguageType) → AllBelow xs ys → (p l r : ℕ)
    → unless (separable (type_of ys l) (type_of ys r)) 9 p ≡ none → unless (separable (type_of xs l) (type_of xs r)) 9 p ≡ none
separable_still xs ys h p l r e =
    let s = (separable_iff (type_of ys l) (type_of ys r)).0 ((unless_iff (separable (type_of ys l) (type_of ys r)) 9 p).0 e) in
    (unless_iff (separable (type_of xs l) (type_of xs r)) 9 p).1 ((separable_iff (type_of xs l) (type_of xs r)).1 (separable_falls (h l) (h r) s))

pub passes_falls : (xs ys : List LanguageType) → AllBelow xs ys → (p : ℕ) (x : Node) → PassesAt ys p x → PassesAt xs p x
unfolding node_fault
passes_falls xs ys h p epsilon_node e = refl
passes_falls xs ys h p bottom_node e = refl
passes_falls xs ys h p (token_node t) e = refl
passes_falls xs ys h p (sequence_node l r) e = separable_still xs ys h p l r e
passes_falls xs ys h p (alternative_node l r) e =
    let s = (apart_iff (type_of ys l) (type_of ys r)).0 ((unless_iff (apart (type_of ys l) (type_of ys r)) 10 p).0 e) in
    (unless_iff (apart (type_of xs l) (type_of xs r)) 10 p).1 ((apart_iff (type_of xs l) (type_of xs r)).1 (apart_falls (h l) (h r) s))
passes_falls xs ys h p (fixed_point_node b) e = refl
passes_falls xs ys h p (variable_node f guarded) e = e
passes_falls xs ys h p (repetition_node b self) e = separable_still xs ys h p b b e

-- No fault: every node passes.
pub no_fault_iff : (types : List LanguageType) (ns : List Node) (p : ℕ) → (first_fault types ns p ≡ none) ↔ EachFrom (PassesAt types) p ns
unfolding first_fault
no_fault_iff types [] p = (λ e. tt, λ h. refl)
no_fault_iff types (x ∷ ns) p = go (node_fault types x p) refl (no_fault_iff types ns (suc p))
  where
    go : (o : Option Fault) → node_fault types x p ≡ o → (first_fault types ns (suc p) ≡ none) ↔ EachFrom (PassesAt types) (suc p) ns
        → (or_else o (first_fault types ns (suc p)) ≡ none) ↔ (PassesAt types p x × EachFrom (PassesAt types) (suc p) ns)
    go none e i = (λ f. (e, i.0 f), λ h. i.1 h.1)
    go (some f) e i = (λ k. let z : ◌≡◌ {A = ℕ} 0 1 = cc in absurd (omega arith), λ h. sym e ∙ h.0)

-- The parts of each alternative are apart.
abbrev pub AlternativesApart : List Node → List LanguageType → Type 0
AlternativesApart ns types = (n l r : ℕ) → node_at ns n ≡ alternative_node l r → Apart (type_of types l) (type_of types r)

pub passes_apart : (ns : List Node) (types : List LanguageType) → EachFrom (PassesAt types) 0 ns → AlternativesApart ns types
unfolding node_fault
passes_apart ns types h n l r e = ⊎_elim
    (λ k. (apart_iff (type_of types l) (type_of types r)).0 ((unless_iff (apart (type_of types l) (type_of types r)) 10 n).0
    (rw e at (each_member (PassesAt types) bottom_node ns h n k))))
    (λ k. let z : ◌≡◌ {A = ℕ} 0 1 = cc (get_or-eq_default ns bottom_node {n = n} k, e) in absurd (omega arith)) (lt-or-le n (length ns))

-- A fault names the node that fails.
unless_node : (passes : Bool) (number p : ℕ) (f : Fault) → unless passes number p ≡ some f → f.node ≡ p
unfolding unless
unless_node true number p f e = cc
unless_node false number p f e = cc

fault_node : (types : List LanguageType) (x : Node) (p : ℕ) (f : Fault) → node_fault types x p ≡ some f → f.node ≡ p
unfolding node_fault
fault_node types epsilon_node p f e = cc
fault_node types bottom_node p f e = cc
fault_node types (token_node t) p f e = cc
fault_node types (sequence_node l r) p f e = unless_node (separable (type_of types l) (type_of types r)) 9 p f e
fault_node types (alternative_node l r) p f e = unless_node (apart (type_of types l) (type_of types r)) 10 p f e
fault_node types (fixed_point_node b) p f e = cc
fault_node types (variable_node b guarded) p f e = unless_node guarded 8 p f e
fault_node types (repetition_node b self) p f e = unless_node (separable (type_of types b) (type_of types b)) 9 p f e

-- The fault f of the nodes from place p on: it is the fault of the n-th of them, and those before it pass.
record FirstFails (types : List LanguageType) (ns : List Node) (p : ℕ) (f : Fault) : Type 0 where
  index : ℕ
  among : index < length ns
  fails : node_fault types (node_at ns index) (p + index) ≡ some f
  earlier : (n : ℕ) → n < index → PassesAt types (p + n) (node_at ns n)

first_fails : (types : List LanguageType) (ns : List Node) (p : ℕ) (f : Fault) → first_fault types ns p ≡ some f → FirstFails types ns p f
unfolding first_fault
first_fails types [] p f e = let z : ◌≡◌ {A = ℕ} 0 1 = cc in absurd (omega arith)
first_fails types (x ∷ ns) p f e = go (node_fault types x p) refl e (λ k. first_fails types ns (suc p) f k)
  where
    go : (o : Option Fault) → node_fault types x p ≡ o → or_else o (first_fault types ns (suc p)) ≡ some f
        → (first_fault types ns (suc p) ≡ some f → FirstFails types ns (suc p) f) → FirstFails types (x ∷ ns) p f
    go (some g) i k rest = record { index = 0; among = omega arith; fails = rw (add-zero p) (i ∙ k); earlier = λ n l. absurd (omega arith) }
    go none i k rest =
        let r = rest k in
        record {
          index = suc r.index;
          among = omega (arith, r.among);
          fails = subst (λ q. node_fault types (node_at ns r.index) q ≡ some f) (omega arith) r.fails;
          earlier = earlier_of r;
        }
      where
        earlier_of : (r : FirstFails types ns (suc p) f) (n : ℕ) → n < suc r.index → PassesAt types (p + n) (node_at (x ∷ ns) n)
        earlier_of r zero l = rw (add-zero p) i
        earlier_of r (suc n) l = subst (λ q. PassesAt types q (node_at ns n)) (omega arith) (r.earlier n (omega arith))

-- The fault f stands at the first node of the list that fails: that node's own question has this answer, and earlier nodes pass.
pub record FirstToFail (types : List LanguageType) (ns : List Node) (f : Fault) : Type 0 where
  pub among : f.node < length ns
  pub fails : node_fault types (node_at ns f.node) f.node ≡ some f
  pub earlier : (n : ℕ) → n < f.node → PassesAt types n (node_at ns n)

pub first_fault-first : (types : List LanguageType) (ns : List Node) (f : Fault) → first_fault types ns 0 ≡ some f → FirstToFail types ns f
first_fault-first types ns f e =
    let r = first_fails types ns 0 f e in
    let at : f.node ≡ r.index = fault_node types (node_at ns r.index) (0 + r.index) f r.fails ∙ omega arith in
    record {
      among = omega (arith, r.among);
      fails = subst (λ q. node_fault types (node_at ns q) q ≡ some f) (sym at)
          (subst (λ q. node_fault types (node_at ns r.index) q ≡ some f) (omega arith) r.fails);
      earlier = λ n l. subst (λ q. PassesAt types q (node_at ns n)) (omega arith) (r.earlier n (omega arith));
    }

pub type_fault-first : (e : Expression) (f : Fault) → type_fault e ≡ some f → FirstToFail (least_types e) (nodes e) f
unfolding type_fault
type_fault-first e f found = first_fault-first (least_types e) (nodes e) f found
