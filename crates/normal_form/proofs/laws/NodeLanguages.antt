-- The language of each node in its place: its free variables stand for the languages of their own fixed points. One equation a
-- node holds of them, they are the least that solve the equations, and each satisfies the node's type. Productions are not spoken of here.
use Rattle.std.specs.Prelude.{◌≡◌, refl, false, List, [], ◌∷◌, ◌++◌, ◌↔◌, ℕ, zero, suc, ◌+◌, ◌≤◌, ◌<◌, get_or, length}
use Rattle.std.proofs.Common.{sym, subst, inl, inr, arith, length-append}
use Rattle.std.proofs.Math.Logic.{⊎_map}
use Rattle.std.proofs.Math.ListN.{get_or-eq_default}
use Rattle.sheet.specs.Expression.{Expression, epsilon, bottom, token, sequence, alternative, fixed_point, variable, repetition, size}
use Rattle.sheet.specs.WellFormed.{Closed}
use Rattle.types.specs.Denotation.{Language, followed_by, iterate, language_at, denotation, Denotes}
use Rattle.types.specs.Languages.{no_words, either, none_or_more, Environment}
use Rattle.types.specs.NodeLanguages.{languages_from, language_of}
use Rattle.types.proofs.laws.DenotationLaws.{Pointwise, pointwise_nil, pointwise_cons, fixed_point_unrolls, repetition_unrolls}
use Rattle.types.specs.Types.{LanguageType, bottom_type, all_usable, Usable, here, there, ◌⊢◌∶◌, type_epsilon, type_bottom, type_token, type_variable, type_sequence, type_alternative, type_fixed_point, type_repetition}
use Rattle.types.specs.TypeNames.{Context}
use Rattle.types.proofs.laws.Soundness.{Satisfies, SatisfiesHypothesis, satisfies_usable, sound}
use Rattle.types.specs.Nodes.{Node, epsilon_node, bottom_node, token_node, sequence_node, alternative_node, fixed_point_node, variable_node, repetition_node, nodes, node_at}
use Rattle.normal_form.proofs.laws.Places.{Segment, segment_left, segment_right, segment_all, Placed, nodes_placed, nodes-count, Everywhere, everywhere_all, usable_still, usable_again, none_usable}

languages_length : (g : Expression) (γ : Environment) → length (languages_from g γ) ≡ size g
unfolding languages_from size
languages_length epsilon γ = refl
languages_length bottom γ = refl
languages_length (token k) γ = refl
languages_length (sequence g h) γ =
    let a = languages_length g γ in let b = languages_length h γ in
    let c = length-append (languages_from g γ) (languages_from h γ) in omega arith
languages_length (alternative g h) γ =
    let a = languages_length g γ in let b = languages_length h γ in
    let c = length-append (languages_from g γ) (languages_from h γ) in omega arith
languages_length (fixed_point g) γ = let a = languages_length g (denotation (fixed_point g) γ ∷ γ) in omega arith
languages_length (variable n) γ = refl
languages_length (repetition g) γ = let a = languages_length g γ in omega arith

pub languages_past : (e : Expression) (n : ℕ) → size e ≤ n → language_of e n ≡ no_words
unfolding language_of
languages_past e n h = get_or-eq_default (languages_from e []) no_words (rw (languages_length e []) h)

-- The nodes below g's own have their languages in the table, g's own node being p.
abbrev PartsDenote : (ℕ → Language) → Expression → ℕ → Environment → Type 1
PartsDenote N epsilon p γ = Unit
PartsDenote N bottom p γ = Unit
PartsDenote N (token k) p γ = Unit
PartsDenote N (sequence g h) p γ =
    (N (suc p) ≡ denotation g γ) × PartsDenote N g (suc p) γ × (N (suc p + size g) ≡ denotation h γ) × PartsDenote N h (suc p + size g) γ
PartsDenote N (alternative g h) p γ =
    (N (suc p) ≡ denotation g γ) × PartsDenote N g (suc p) γ × (N (suc p + size g) ≡ denotation h γ) × PartsDenote N h (suc p + size g) γ
PartsDenote N (fixed_point g) p γ =
    (N (suc p) ≡ denotation g (denotation (fixed_point g) γ ∷ γ)) × PartsDenote N g (suc p) (denotation (fixed_point g) γ ∷ γ)
PartsDenote N (variable n) p γ = Unit
PartsDenote N (repetition g) p γ = (N (suc p) ≡ denotation g γ) × PartsDenote N g (suc p) γ

own_language : (N : ℕ → Language) (g : Expression) (p : ℕ) (γ : Environment) → Segment N p (languages_from g γ) → N p ≡ denotation g γ
unfolding languages_from
own_language N epsilon p γ h = h.0
own_language N bottom p γ h = h.0
own_language N (token k) p γ h = h.0
own_language N (sequence g k) p γ h = h.0
own_language N (alternative g k) p γ h = h.0
own_language N (fixed_point g) p γ h = h.0
own_language N (variable n) p γ h = h.0
own_language N (repetition g) p γ h = h.0

right_languages : (N : ℕ → Language) (g k : Expression) (p : ℕ) (γ : Environment)
    → Segment N p (languages_from g γ ++ languages_from k γ) → Segment N (p + size g) (languages_from k γ)
right_languages N g k p γ h = rw (languages_length g γ) at (segment_right N p (languages_from g γ) (languages_from k γ) h)

parts_denote : (N : ℕ → Language) (g : Expression) (p : ℕ) (γ : Environment) → Segment N p (languages_from g γ) → PartsDenote N g p γ
unfolding languages_from
parts_denote N epsilon p γ h = tt
parts_denote N bottom p γ h = tt
parts_denote N (token k) p γ h = tt
parts_denote N (sequence g k) p γ h =
    let l = segment_left N (suc p) (languages_from g γ) (languages_from k γ) h.1 in let r = right_languages N g k (suc p) γ h.1 in (
      own_language N g (suc p) γ l,
      parts_denote N g (suc p) γ l,
      own_language N k (suc p + size g) γ r,
      parts_denote N k (suc p + size g) γ r,
    )
parts_denote N (alternative g k) p γ h =
    let l = segment_left N (suc p) (languages_from g γ) (languages_from k γ) h.1 in let r = right_languages N g k (suc p) γ h.1 in (
      own_language N g (suc p) γ l,
      parts_denote N g (suc p) γ l,
      own_language N k (suc p + size g) γ r,
      parts_denote N k (suc p + size g) γ r,
    )
parts_denote N (fixed_point g) p γ h =
    (own_language N g (suc p) (denotation (fixed_point g) γ ∷ γ) h.1, parts_denote N g (suc p) (denotation (fixed_point g) γ ∷ γ) h.1)
parts_denote N (variable n) p γ h = tt
parts_denote N (repetition g) p γ h = (own_language N g (suc p) γ h.1, parts_denote N g (suc p) γ h.1)

-- The start's language is what the expression denotes.
pub start_language : (e : Expression) → language_of e 0 ≡ Denotes e
unfolding language_of
start_language e = own_language (language_of e) e 0 [] (segment_all no_words (languages_from e []))

-- An expression g in its place in a whole one: its node is p, its open fixed points are the nodes fs with the languages γ.
pub record Site (N : ℕ → Language) (table : ℕ → Node) (Γ : Context) (g : Expression) (γ : Environment) (p : ℕ) (fs : List ℕ) : Type 1 where
  pub satisfied : Pointwise SatisfiesHypothesis γ Γ
  pub placed : Placed table g p fs
  pub denoted : N p ≡ denotation g γ
  pub parts : PartsDenote N g p γ
  pub bound : (n : ℕ) (a : LanguageType) → Usable (all_usable Γ) n a → N (get_or fs n 0) ≡ language_at γ n

module _ {N : ℕ → Language} {table : ℕ → Node} {Γ : Context} {γ : Environment} {p : ℕ} {fs : List ℕ} where
  pub at_left : {g h : Expression} → Site N table Γ (sequence g h) γ p fs → Site N table Γ g γ (suc p) fs
  at_left s = record {
    satisfied = s.satisfied;
    placed = s.placed.1;
    denoted = s.parts.0;
    parts = s.parts.1;
    bound = s.bound;
  }

  pub at_right : {g h : Expression} → Site N table Γ (sequence g h) γ p fs → Site N table (all_usable Γ) h γ (suc p + size g) fs
  at_right s = record {
    satisfied = satisfies_usable s.satisfied;
    placed = s.placed.2;
    denoted = s.parts.2;
    parts = s.parts.3;
    bound = λ n a u. s.bound n a (usable_again Γ u);
  }

  pub at_first : {g h : Expression} → Site N table Γ (alternative g h) γ p fs → Site N table Γ g γ (suc p) fs
  at_first s = record {
    satisfied = s.satisfied;
    placed = s.placed.1;
    denoted = s.parts.0;
    parts = s.parts.1;
    bound = s.bound;
  }

  pub at_second : {g h : Expression} → Site N table Γ (alternative g h) γ p fs → Site N table Γ h γ (suc p + size g) fs
  at_second s = record {
    satisfied = s.satisfied;
    placed = s.placed.2;
    denoted = s.parts.2;
    parts = s.parts.3;
    bound = s.bound;
  }

  pub at_part : {g : Expression} → Site N table Γ (repetition g) γ p fs → Site N table Γ g γ (suc p) fs
  at_part s = record {
    satisfied = s.satisfied;
    placed = s.placed.1;
    denoted = s.parts.0;
    parts = s.parts.1;
    bound = s.bound;
  }

  pub site_sound : {g : Expression} {a : LanguageType} → Γ ⊢ g ∶ a → Site N table Γ g γ p fs → Satisfies (N p) a
  site_sound {a = a} d s = subst (λ L. Satisfies L a) (sym s.denoted) (sound d γ s.satisfied)

  pub at_body : {g : Expression} {a : LanguageType} → (record { usable = false; type = a } ∷ Γ) ⊢ g ∶ a
      → Site N table Γ (fixed_point g) γ p fs
      → Site N table (record { usable = false; type = a } ∷ Γ) g (denotation (fixed_point g) γ ∷ γ) (suc p) (p ∷ fs)
  at_body {g} {a} d s = record {
    satisfied = pointwise_cons (sound (type_fixed_point d) γ s.satisfied) s.satisfied;
    placed = s.placed.1;
    denoted = s.parts.0;
    parts = s.parts.1;
    bound = inner;
  }
    where
      inner : (n : ℕ) (b : LanguageType) → Usable (all_usable (record { usable = false; type = a } ∷ Γ)) n b
          → N (get_or (p ∷ fs) n 0) ≡ language_at (denotation (fixed_point g) γ ∷ γ) n
      inner n b here = s.denoted
      inner n b (there {n = i} u) = s.bound i b u

whole_site : (e : Expression) → Site (language_of e) (node_at (nodes e)) [] e [] 0 []
unfolding language_of
whole_site e = record {
  satisfied = pointwise_nil;
  placed = nodes_placed e;
  denoted = start_language e;
  parts = parts_denote (language_of e) e 0 [] (segment_all no_words (languages_from e []));
  bound = λ n a u. none_usable u;
}

-- What holds of a node if it holds of its usable variables holds of all nodes.
module _ (N : ℕ → Language) (table : ℕ → Node) (U : LanguageType → ℕ → Type 0)
    (own : (Γ : Context) (g : Expression) (a : LanguageType) → Γ ⊢ g ∶ a → (γ : Environment) (p : ℕ) (fs : List ℕ)
    → Site N table Γ g γ p fs → ((n : ℕ) (b : LanguageType) → Usable Γ n b → U b (get_or fs n 0)) → U a p) where
  abbrev SomeType : ℕ → Type 0
  SomeType n = (a : LanguageType) × U a n

  next_variables : (Γ : Context) (a : LanguageType) (p : ℕ) (fs : List ℕ) → U a p
      → ((n : ℕ) (b : LanguageType) → Usable (all_usable Γ) n b → U b (get_or fs n 0))
      → (n : ℕ) (b : LanguageType) → Usable (all_usable (record { usable = false; type = a } ∷ Γ)) n b → U b (get_or (p ∷ fs) n 0)
  next_variables Γ a p fs x k n b here = x
  next_variables Γ a p fs x k n b (there {n = i} u) = k i b u

  own_still : {Γ : Context} {g : Expression} {a : LanguageType} → Γ ⊢ g ∶ a → (γ : Environment) (p : ℕ) (fs : List ℕ)
      → Site N table Γ g γ p fs → ((n : ℕ) (b : LanguageType) → Usable (all_usable Γ) n b → U b (get_or fs n 0)) → SomeType p
  own_still {Γ} {g} {a} d γ p fs s k = (a, own Γ g a d γ p fs s (λ n b u. k n b (usable_still u)))

  pub typed_everywhere : {Γ : Context} {g : Expression} {a : LanguageType} → Γ ⊢ g ∶ a → (γ : Environment) (p : ℕ) (fs : List ℕ)
      → Site N table Γ g γ p fs → ((n : ℕ) (b : LanguageType) → Usable (all_usable Γ) n b → U b (get_or fs n 0)) → Everywhere SomeType g p
  typed_everywhere (type_epsilon {Γ = Γ}) γ p fs s k = own_still (type_epsilon {Γ = Γ}) γ p fs s k
  typed_everywhere (type_bottom {Γ = Γ}) γ p fs s k = own_still (type_bottom {Γ = Γ}) γ p fs s k
  typed_everywhere (type_token {Γ = Γ} t) γ p fs s k = own_still (type_token {Γ = Γ} t) γ p fs s k
  typed_everywhere (type_variable u) γ p fs s k = own_still (type_variable u) γ p fs s k
  typed_everywhere (type_sequence {Γ = Γ} {g = g} d e q) γ p fs s k = (
    own_still (type_sequence d e q) γ p fs s k,
    typed_everywhere d γ (suc p) fs (at_left s) k,
    typed_everywhere e γ (suc p + size g) fs (at_right s) (λ n b u. k n b (usable_again Γ u)),
  )
  typed_everywhere (type_alternative {g = g} d e q) γ p fs s k = (
    own_still (type_alternative d e q) γ p fs s k,
    typed_everywhere d γ (suc p) fs (at_first s) k,
    typed_everywhere e γ (suc p + size g) fs (at_second s) k,
  )
  typed_everywhere (type_fixed_point {Γ = Γ} {g = g} {a = a} d) γ p fs s k =
      let x : SomeType p = own_still (type_fixed_point d) γ p fs s k in (
        x,
        typed_everywhere d (denotation (fixed_point g) γ ∷ γ) (suc p) (p ∷ fs) (at_body d s)
            (next_variables Γ a p fs (own Γ (fixed_point g) a (type_fixed_point d) γ p fs s (λ n b u. k n b (usable_still u))) k),
      )
  typed_everywhere (type_repetition d q e) γ p fs s k = (own_still (type_repetition d q e) γ p fs s k, typed_everywhere d γ (suc p) fs (at_part s) k)

-- For a sheet's expression, whose nodes have languages of their own.
pub at_every_node : {e : Expression} {a : LanguageType} → [] ⊢ e ∶ a → (U : LanguageType → ℕ → Type 0)
    → ((Γ : Context) (g : Expression) (a : LanguageType) → Γ ⊢ g ∶ a → (γ : Environment) (p : ℕ) (fs : List ℕ)
    → Site (language_of e) (node_at (nodes e)) Γ g γ p fs → ((n : ℕ) (b : LanguageType) → Usable Γ n b → U b (get_or fs n 0)) → U a p)
    → ((n : ℕ) → size e ≤ n → (b : LanguageType) × U b n) → (n : ℕ) → (b : LanguageType) × U b n
at_every_node {e} d U own past = everywhere_all (λ n. (b : LanguageType) × U b n) e
    (typed_everywhere (language_of e) (node_at (nodes e)) U own d [] 0 [] (whole_site e) (λ n b u. none_usable u)) past

-- The equation of a node: L(sequence) = L(left) · L(right), and so on.
abbrev pub node_language : (ℕ → Language) → Node → Language
node_language N epsilon_node w = w ≡ []
node_language N bottom_node w = ⊥
node_language N (token_node k) w = w ≡ k ∷ []
node_language N (sequence_node l r) w = followed_by (N l) (N r) w
node_language N (alternative_node l r) w = either (N l) (N r) w
node_language N (fixed_point_node b) w = N b w
node_language N (variable_node f guarded) w = N f w
node_language N (repetition_node b self) w = none_or_more (N b) (N self) w

pub same_words : {L M : Language} → L ≡ M → (w : List ℕ) → L w ↔ M w
same_words e w = (subst (λ L. L w) e, subst (λ L. L w) (sym e))

module _ (N : ℕ → Language) (table : ℕ → Node) where
  abbrev EquationAt : ℕ → Type 0
  EquationAt p = (w : List ℕ) → N p w ↔ node_language N (table p) w

  -- What a variable stands for is its fixed point's language.
  abbrev StandsFor : Expression → Environment → List ℕ → Type 1
  StandsFor epsilon γ fs = Unit
  StandsFor bottom γ fs = Unit
  StandsFor (token k) γ fs = Unit
  StandsFor (sequence g h) γ fs = Unit
  StandsFor (alternative g h) γ fs = Unit
  StandsFor (fixed_point g) γ fs = Unit
  StandsFor (variable n) γ fs = N (get_or fs n 0) ≡ language_at γ n
  StandsFor (repetition g) γ fs = Unit

  own_equation : (g : Expression) (γ : Environment) (p : ℕ) (fs : List ℕ) → Placed table g p fs → N p ≡ denotation g γ → PartsDenote N g p γ
      → StandsFor g γ fs → EquationAt p
  own_equation epsilon γ p fs t e s v w = rw (e, t) (λ h. h, λ h. h)
  own_equation bottom γ p fs t e s v w = rw (e, t) (λ h. h, λ h. h)
  own_equation (token k) γ p fs t e s v w = rw (e, t) (λ h. h, λ h. h)
  own_equation (variable n) γ p fs t e s v w = rw (e, t.1) (same_words (sym v) w)
  own_equation (sequence g h) γ p fs t e s v w = rw (e, t.0, s.0, s.2) (λ h. h, λ h. h)
  own_equation (alternative g h) γ p fs t e s v w = rw (e, t.0, s.0, s.2) (λ h. h, λ h. h)
  own_equation (fixed_point g) γ p fs t e s v w = rw (e, t.0, s.0) (fixed_point_unrolls g γ w)
  own_equation (repetition g) γ p fs t e s v w = rw (t.0, e, s.0) (repetition_unrolls (denotation g γ) w)

  -- Of a typed expression,
  typed_stands : {Γ : Context} {g : Expression} {a : LanguageType} → Γ ⊢ g ∶ a → (γ : Environment) (p : ℕ) (fs : List ℕ)
      → Site N table Γ g γ p fs → StandsFor g γ fs
  typed_stands type_epsilon γ p fs s = tt
  typed_stands type_bottom γ p fs s = tt
  typed_stands (type_token k) γ p fs s = tt
  typed_stands (type_variable {n = n} {a = a} u) γ p fs s = s.bound n a (usable_still u)
  typed_stands (type_sequence d e q) γ p fs s = tt
  typed_stands (type_alternative d e q) γ p fs s = tt
  typed_stands (type_fixed_point d) γ p fs s = tt
  typed_stands (type_repetition d q e) γ p fs s = tt

  pub site_equation : {Γ : Context} {g : Expression} {a : LanguageType} → Γ ⊢ g ∶ a → (γ : Environment) (p : ℕ) (fs : List ℕ)
      → Site N table Γ g γ p fs → (w : List ℕ) → N p w ↔ node_language N (table p) w
  site_equation {g = g} d γ p fs s = own_equation g γ p fs s.placed s.denoted s.parts (typed_stands d γ p fs s)

  -- and of a closed one, which need not have a type.
  module _ (tokens : ℕ) where
    abbrev AllStand : Environment → List ℕ → Type 1
    AllStand γ fs = (n : ℕ) → n < length fs → N (get_or fs n 0) ≡ language_at γ n

    next_stand : (γ : Environment) (fs : List ℕ) (L : Language) (p : ℕ) → N p ≡ L → AllStand γ fs → AllStand (L ∷ γ) (p ∷ fs)
    next_stand γ fs L p e v zero l = e
    next_stand γ fs L p e v (suc n) l = v n (omega arith)

    closed_equations : (g : Expression) (γ : Environment) (p : ℕ) (fs : List ℕ) → Closed tokens (length fs) g → Placed table g p fs
        → N p ≡ denotation g γ → PartsDenote N g p γ → AllStand γ fs → Everywhere EquationAt g p
    closed_equations epsilon γ p fs c t e s v = own_equation epsilon γ p fs t e s tt
    closed_equations bottom γ p fs c t e s v = own_equation bottom γ p fs t e s tt
    closed_equations (token k) γ p fs c t e s v = own_equation (token k) γ p fs t e s tt
    closed_equations (variable n) γ p fs c t e s v = own_equation (variable n) γ p fs t e s (v n c)
    closed_equations (sequence g h) γ p fs c t e s v = (
      own_equation (sequence g h) γ p fs t e s tt,
      closed_equations g γ (suc p) fs c.0 t.1 s.0 s.1 v,
      closed_equations h γ (suc p + size g) fs c.1 t.2 s.2 s.3 v,
    )
    closed_equations (alternative g h) γ p fs c t e s v = (
      own_equation (alternative g h) γ p fs t e s tt,
      closed_equations g γ (suc p) fs c.0 t.1 s.0 s.1 v,
      closed_equations h γ (suc p + size g) fs c.1 t.2 s.2 s.3 v,
    )
    closed_equations (fixed_point g) γ p fs c t e s v = (
      own_equation (fixed_point g) γ p fs t e s tt,
      closed_equations g (denotation (fixed_point g) γ ∷ γ) (suc p) (p ∷ fs) c t.1 s.0 s.1
          (next_stand γ fs (denotation (fixed_point g) γ) p e v),
    )
    closed_equations (repetition g) γ p fs c t e s v =
        (own_equation (repetition g) γ p fs t e s tt, closed_equations g γ (suc p) fs c t.1 s.0 s.1 v)

nodes_past : (e : Expression) (n : ℕ) → size e ≤ n → node_at (nodes e) n ≡ bottom_node
nodes_past e n h = get_or-eq_default (nodes e) bottom_node (rw (nodes-count e) h)

equation_past : (e : Expression) (n : ℕ) → size e ≤ n → EquationAt (language_of e) (node_at (nodes e)) n
equation_past e n h w = rw (languages_past e n h, nodes_past e n h) (λ z. z, λ z. z)

pub language_equation : {e : Expression} {a : LanguageType} → [] ⊢ e ∶ a → (n : ℕ) (w : List ℕ)
    → language_of e n w ↔ node_language (language_of e) (node_at (nodes e) n) w
language_equation {e} d n = (at_every_node d (λ a i. EquationAt (language_of e) (node_at (nodes e)) i)
    (λ Γ g b x γ p fs s k. site_equation (language_of e) (node_at (nodes e)) x γ p fs s) (λ i h. (bottom_type, equation_past e i h)) n).1

pub closed_equation : (tokens : ℕ) (e : Expression) → Closed tokens 0 e → (n : ℕ) (w : List ℕ)
    → language_of e n w ↔ node_language (language_of e) (node_at (nodes e) n) w
closed_equation tokens e c = let s = whole_site e in everywhere_all (EquationAt (language_of e) (node_at (nodes e))) e
    (closed_equations (language_of e) (node_at (nodes e)) tokens e [] 0 [] c s.placed s.denoted s.parts (λ n l. absurd (omega arith)))
    (equation_past e)

-- ---- no smaller languages solve the equations

-- Languages P to which the equations add nothing hold all words.
module _ (N : ℕ → Language) (table : ℕ → Node) (P : ℕ → Language) (closed : (n : ℕ) (w : List ℕ) → node_language P (table n) w → P n w) where
  abbrev VariablesWithin : Environment → List ℕ → Type 0
  VariablesWithin γ fs = (n : ℕ) (w : List ℕ) → language_at γ n w → P (get_or fs n 0) w

  next_within : (γ : Environment) (fs : List ℕ) (L : Language) (p : ℕ) → ((w : List ℕ) → L w → P p w) → VariablesWithin γ fs
      → VariablesWithin (L ∷ γ) (p ∷ fs)
  next_within γ fs L p f k zero w h = f w h
  next_within γ fs L p f k (suc n) w h = k n w h

  by_equation : (p : ℕ) {x : Node} → table p ≡ x → (w : List ℕ) → node_language P x w → P p w
  by_equation p e w h = closed p w (subst (λ (x : Node). node_language P x w) (sym e) h)

  -- The union of a chain of languages, each within P if the one before is.
  union_within : (p : ℕ) (f : Language → Language) → ((L : Language) → ((w : List ℕ) → L w → P p w) → (w : List ℕ) → f L w → P p w)
      → (i : ℕ) (w : List ℕ) → iterate f i w → P p w
  union_within p f step zero w h = absurd h
  union_within p f step (suc i) w h = step (iterate f i) (union_within p f step i) w h

  word_within : (g : Expression) (γ : Environment) (p : ℕ) (fs : List ℕ) → Placed table g p fs → VariablesWithin γ fs
      → (w : List ℕ) → denotation g γ w → P p w
  word_within epsilon γ p fs t k w h = by_equation p t w h
  word_within bottom γ p fs t k w h = absurd h
  word_within (token c) γ p fs t k w h = by_equation p t w h
  word_within (sequence g r) γ p fs t k w h = by_equation p t.0 w (
    h.0,
    h.1,
    h.2,
    word_within g γ (suc p) fs t.1 k h.0 h.3,
    word_within r γ (suc p + size g) fs t.2 k h.1 h.4,
  )
  word_within (alternative g r) γ p fs t k w (inl h) = by_equation p t.0 w (inl (word_within g γ (suc p) fs t.1 k w h))
  word_within (alternative g r) γ p fs t k w (inr h) = by_equation p t.0 w (inr (word_within r γ (suc p + size g) fs t.2 k w h))
  word_within (fixed_point g) γ p fs t k w h = union_within p (λ L. denotation g (L ∷ γ))
      (λ L f v x. by_equation p t.0 v (word_within g (L ∷ γ) (suc p) (p ∷ fs) t.1 (next_within γ fs L p f k) v x)) h.0 w h.1
  word_within (variable n) γ p fs t k w h = by_equation p t.1 w (k n w h)
  word_within (repetition g) γ p fs t k w h = union_within p (none_or_more (denotation g γ))
      (λ L f v x. by_equation p t.0 v (⊎_map (λ z. z)
      (λ z. (z.0, z.1, z.2, word_within g γ (suc p) fs t.1 k z.0 z.3, f z.1 z.4)) x)) h.0 w h.1

  own_within : (g : Expression) (γ : Environment) (p : ℕ) (fs : List ℕ) → Placed table g p fs → N p ≡ denotation g γ → VariablesWithin γ fs
      → (w : List ℕ) → N p w → P p w
  own_within g γ p fs t e k w h = word_within g γ p fs t k w (subst (λ L. L w) e h)

  -- At all nodes.
  words_within : (g : Expression) (γ : Environment) (p : ℕ) (fs : List ℕ) → Placed table g p fs → N p ≡ denotation g γ → PartsDenote N g p γ
      → VariablesWithin γ fs → Everywhere (λ n. (w : List ℕ) → N n w → P n w) g p
  words_within epsilon γ p fs t e s k = own_within epsilon γ p fs t e k
  words_within bottom γ p fs t e s k = own_within bottom γ p fs t e k
  words_within (token c) γ p fs t e s k = own_within (token c) γ p fs t e k
  words_within (sequence g r) γ p fs t e s k = (
    own_within (sequence g r) γ p fs t e k,
    words_within g γ (suc p) fs t.1 s.0 s.1 k,
    words_within r γ (suc p + size g) fs t.2 s.2 s.3 k,
  )
  words_within (alternative g r) γ p fs t e s k = (
    own_within (alternative g r) γ p fs t e k,
    words_within g γ (suc p) fs t.1 s.0 s.1 k,
    words_within r γ (suc p + size g) fs t.2 s.2 s.3 k,
  )
  words_within (fixed_point g) γ p fs t e s k = (
    own_within (fixed_point g) γ p fs t e k,
    words_within g (denotation (fixed_point g) γ ∷ γ) (suc p) (p ∷ fs) t.1 s.0 s.1
        (next_within γ fs (denotation (fixed_point g) γ) p (word_within (fixed_point g) γ p fs t k) k),
  )
  words_within (variable n) γ p fs t e s k = own_within (variable n) γ p fs t e k
  words_within (repetition g) γ p fs t e s k = (own_within (repetition g) γ p fs t e k, words_within g γ (suc p) fs t.1 s.0 s.1 k)

-- The nodes' languages are the least that solve the equations, typed or not.
pub languages_least : (e : Expression) (P : ℕ → Language)
    → ((n : ℕ) (w : List ℕ) → node_language P (node_at (nodes e) n) w → P n w) → (n : ℕ) (w : List ℕ) → language_of e n w → P n w
languages_least e P closed = let s = whole_site e in everywhere_all (λ n. (w : List ℕ) → language_of e n w → P n w) e
    (words_within (language_of e) (node_at (nodes e)) P closed e [] 0 [] s.placed s.denoted s.parts (λ n w h. absurd h))
    (λ n h w x. absurd (subst (λ L. L w) (languages_past e n h) x))
