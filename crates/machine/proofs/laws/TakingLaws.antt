-- Taking a rule over an image does what its token does to the nodes that the pending nonterminals stand for, and the ends
-- agree too. It speaks of any image rows that do what some rows by token do.
use Rattle.std.specs.Prelude.{◌≡◌, Bool, ◌↔◌, ℕ}
use Rattle.std.proofs.Math.Path.{refl, ap₂}
use Rattle.std.proofs.Common.{sym, ap, ◌∙◌, arith}
use Rattle.std.proofs.Math.Bool.{true, false, ◌&&◌}
use mathlib.Core.List.{List, [], ◌∷◌, ◌++◌, map, map-append}
use Rattle.std.proofs.Math.Option.{Option, none, some}
use Rattle.basics.specs.Lists.{All}
use Rattle.basics.proofs.laws.Truth.{and-true-first, and-true-second}
use Rattle.sheet.specs.Sheet.{Rule}
use Rattle.normal_form.specs.Productions.{Production, Row, row_of, production_of, Taking}
use Rattle.normal_form.specs.RowNames.{taken_by}
use Rattle.normal_form.proofs.laws.Pending.{AllNullable, TokenStep, takes, drops, stops, none_left}
use Rattle.normal_form.proofs.laws.ProductionLaws.{Found, production_found}
use Rattle.basics.proofs.laws.Members.{all-append}
use Rattle.image.specs.laws.Simulation.{tail_of}
use Rattle.image.proofs.laws.Simulation.{Simulates, tail_numbers, TailKnown}
use Rattle.image.proofs.laws.FusionLaws.{Returns}
use Rattle.machine.specs.Trace.{taking, all_nullable}

-- The nonterminals of the node that took a token and of the nodes pending then.
abbrev pub numbers_of : (ℕ → ℕ) → Option Taking → Option Taking
numbers_of number none = none
numbers_of number (some x) = some (taken_by (number x.taker) (map number x.pending))

abbrev pub AllKnown : (ℕ → Type 0) → Option Taking → Type 0
AllKnown Known none = Unit
AllKnown Known (some x) = Known x.taker × All Known x.pending

module _ (rules : List Rule) (rows image : List Row) (number : ℕ → ℕ) (Known : ℕ → Type 0) (same : Simulates rules rows image number Known) where
  -- What taking rule k, which returns token t, does to the nonterminals of some known nodes.
  pub record Taken (t k : ℕ) (nodes : List ℕ) : Type 0 where
    pub after : Option Taking
    pub token_step : TokenStep (row_of rows) t nodes after
    pub numbered : taking image (map number nodes) k ≡ numbers_of number after
    pub known : AllKnown Known after

  module _ (t k : ℕ) (returns : Returns rules k t) where
    pub taken : (nodes : List ℕ) → All Known nodes → Taken t k nodes
    unfolding taking
    taken [] h = record { after = none; token_step = none_left; numbered = refl; known = tt }
    taken (n ∷ nodes) h =
        go (taken nodes h.1) (production_of k (row_of image (number n)).productions) (production_of t (row_of rows n).productions)
        (same.same_production n h.0 k t returns) (production_found t (row_of rows n).productions) (same.closed n h.0 k t returns) refl
      where
        -- none for the token: dropped or stopped, by the ε flag
        lacks : Taken t k nodes → Found t (row_of rows n).productions none → (b : Bool) → (row_of rows n).has_epsilon ≡ b
            → (o : Option Taking) × TokenStep (row_of rows) t (n ∷ nodes) o
            × (elim b [ true ↦ taking image (map number nodes) k | false ↦ none ] ≡ numbers_of number o) × AllKnown Known o
        lacks r f true e = (r.after, drops f e r.token_step, r.numbered, r.known)
        lacks r f false e = (none, stops f e, refl, tt)

        go : Taken t k nodes → (x y : Option Production) → tail_of x ≡ tail_numbers number y → Found t (row_of rows n).productions y → TailKnown Known y
            → production_of k (row_of image (number n)).productions ≡ x → Taken t k (n ∷ nodes)
        go r none none e f c p =
            let l = lacks r f (row_of rows n).has_epsilon refl in
            record { after = l.0; token_step = l.1; numbered = rw (p, same.same_epsilon n h.0, taking) l.2; known = l.3 }
        go r none (some q) e f c p = let z : ◌≡◌ {A = ℕ} 0 1 = cc in absurd (omega arith)
        go r (some q) none e f c p = let z : ◌≡◌ {A = ℕ} 0 1 = cc in absurd (omega arith)
        go r (some q) (some s) e f c p =
            let tail_is : q.tail ≡ map number s.tail = cc in
            record {
              after = some (taken_by n (s.tail ++ nodes));
              token_step = takes s f.0 f.1;
              numbered = rw (p, taking) (ap (λ (l : List ℕ). some (taken_by (number n) l)) (ap (λ (l : List ℕ). l ++ map number nodes) tail_is ∙ sym (map-append number s.tail nodes)));
              known = (h.0, all-append Known s.tail nodes c h.1);
            }

  -- At the end: all pending nonterminals are nullable iff their nodes are.
  pub nullable_same : (nodes : List ℕ) → All Known nodes → (all_nullable image (map number nodes) ≡ true) ↔ AllNullable (row_of rows) nodes
  unfolding all_nullable
  nullable_same [] h = (λ e. tt, λ e. refl)
  nullable_same (n ∷ nodes) h =
      let r = nullable_same nodes h.1 in
      let a = (row_of image (number n)).has_epsilon in
      let b = all_nullable image (map number nodes) in (
        (λ e. (sym (same.same_epsilon n h.0) ∙ and-true-first a b e, r.0 (and-true-second a b e))),
        λ e. ap₂ ◌&&◌ (same.same_epsilon n h.0 ∙ e.0) (r.1 e.1),
      )
