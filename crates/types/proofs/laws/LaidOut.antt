-- Types laid out as a list from a node's place on: the node's own, then those of the nodes below it. In every list of all nodes' types
-- that has these from that place on, what is asked holds there; whether that is equations or typing is left open.
use Rattle.std.specs.Prelude.{◌≡◌, refl, List, [], ◌∷◌, ◌++◌, ℕ, suc, ◌+◌, length}
use Rattle.std.proofs.Common.{ap, ap₂, subst, ◌∙◌, arith, length-append}
use Rattle.types.specs.Types.{LanguageType}
use Rattle.types.specs.LeastTypes.{type_of}
use Rattle.types.proofs.laws.EachFrom.{EachFrom, each_left, each_right}

abbrev pub Listed : List LanguageType → ℕ → LanguageType → Type 0
Listed types p a = type_of types p ≡ a

-- Of so many nodes, the first of which has the type c.
pub record LaidOut (count : ℕ) (Holds : List LanguageType → ℕ → Type 0) (c : LanguageType) : Type 0 where
  pub below : List LanguageType
  pub long : suc (length below) ≡ count
  pub holds : (types : List LanguageType) (p : ℕ) → EachFrom (Listed types) p (c ∷ below) → Holds types p

-- A node without parts, with one part, and with two.
module _ {Holds : List LanguageType → ℕ → Type 0} {c : LanguageType} where
  pub laid_alone : ((types : List LanguageType) (p : ℕ) → type_of types p ≡ c → Holds types p) → LaidOut 1 Holds c
  laid_alone f = record { below = []; long = refl; holds = λ types p l. f types p l.0 }

  pub laid_one : {n : ℕ} {P : List LanguageType → ℕ → Type 0} {a : LanguageType} → LaidOut n P a
      → ((types : List LanguageType) (p : ℕ) → type_of types p ≡ c → type_of types (suc p) ≡ a → P types (suc p) → Holds types p)
      → LaidOut (1 + n) Holds c
  laid_one {a = a} x f = record {
    below = a ∷ x.below;
    long = ap suc x.long ∙ omega arith;
    holds = λ types p l. f types p l.0 l.1.0 (x.holds types (suc p) l.1);
  }

  pub laid_two : {n m : ℕ} {P Q : List LanguageType → ℕ → Type 0} {a b : LanguageType} → LaidOut n P a → LaidOut m Q b
      → ((types : List LanguageType) (p : ℕ) → type_of types p ≡ c → type_of types (suc p) ≡ a → type_of types (suc p + n) ≡ b
      → P types (suc p) → Q types (suc p + n) → Holds types p)
      → LaidOut (1 + (n + m)) Holds c
  laid_two {n} {a = a} {b = b} x y f = record {
    below = (a ∷ x.below) ++ (b ∷ y.below);
    long = ap suc (length-append (a ∷ x.below) (b ∷ y.below) ∙ ap₂ ◌+◌ x.long y.long) ∙ omega arith;
    holds = λ types p l.
        let left : EachFrom (Listed types) (suc p) (a ∷ x.below)
        = each_left (Listed types) (suc p) (a ∷ x.below) (b ∷ y.below) l.1 in
        let right : EachFrom (Listed types) (suc p + n) (b ∷ y.below)
        = subst (λ k. EachFrom (Listed types) (suc p + k) (b ∷ y.below)) x.long
        (each_right (Listed types) (suc p) (a ∷ x.below) (b ∷ y.below) l.1) in
        f types p l.0 left.0 right.0 (x.holds types (suc p) left) (y.holds types (suc p + n) right);
  }
