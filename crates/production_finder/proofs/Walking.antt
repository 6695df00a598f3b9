-- Laws of the walk over columns: one for each way through a step, the remembered nodes in their array, and the nodes moved to the
-- front. That the walk over the columns of a typed expression is the definition's walk is proved elsewhere.
use mathlib.Core.Path.{◌≡◌, refl, sym, ap, ap₂, subst, ◌∙◌}
use mathlib.Core.Bool.{Bool, true, false, ◌||◌, cond, true≢false}
use mathlib.Core.List.{List, [], ◌∷◌}
use mathlib.Core.Logic.{◌⊎◌, inl, inr}
use mathlib.Core.Option as maybe
use mathlib.Core.Option.{none, some}
use Rattle.std.specs.Prelude.{Option, Some, None}
use Prim.Native.Nat.{ℕ, zero, suc, ◌+◌, ◌-◌, ◌≤◌, ◌<◌}
use native.Mathlib.Omega.{arith}
use native.Mathlib.Numerals.{add-one}
use lib.Dec.{eqb}
use lib.ListN.{get_or, length, set, drop, length-set}
use lib.Seq.{drop-cons, get_or-set_same, drop-set-lt}
use borrow.Author.Tests.{ne_eqb, eq-eqb, eqb-true, lt-ltb, le-ltb}
use Rattle.basics.specs.Bits.{bit}
use Rattle.basics.proofs.laws.BitLaws.{bit-zero}
use Rattle.types.specs.Nodes.{bottom_node}
use Rattle.columns.specs.HeldNodes.{node_of, held_node}
use Rattle.normal_form.specs.ProductionWalk.{walk_step, walk}
use Rattle.production_finder.specs.ColumnWalk.{column_node, column_first, next_node, column_walk}
use Rattle.production_finder.specs.declared.Walked.{Walked}

none-not-some : {x : List ℕ} → ◌≡◌ {A = maybe.Option (List ℕ)} none (some x) → ⊥
none-not-some e = let z : ◌≡◌ {A = ℕ} 0 1 = cc in absurd (omega arith)

some_same : {x y : List ℕ} → ◌≡◌ {A = maybe.Option (List ℕ)} (some x) (some y) → x ≡ y
some_same e = cc

-- The tags of nodes that remember their link: a sequence, a repetition.
abbrev pub Remembers : ℕ → Type 0
Remembers k = (k ≡ 3) ⊎ (k ≡ 7)

pub remembers : (k : ℕ) → (eqb k 3 || eqb k 7) ≡ true → Remembers k
remembers k = go (eqb k 3) refl
  where
    go : (b : Bool) → eqb k 3 ≡ b → (b || eqb k 7) ≡ true → Remembers k
    go true e h = inl (eqb-true k 3 e)
    go false e h = inr (eqb-true k 7 h)

pub remembers_not : (k : ℕ) → (eqb k 3 || eqb k 7) ≡ false → Remembers k → ⊥
remembers_not k h (inl e) = true≢false (rw (eq-eqb k 3 e) at h)
remembers_not k h (inr e) = go (eqb k 3) (rw (eq-eqb k 7 e) at h)
  where
    go : (b : Bool) → (b || true) ≡ false → ⊥
    go true h = true≢false h
    go false h = true≢false h

-- Past the column a node begins with nothing.
pub begins_past : (first : List ℕ) (n t : ℕ) → 64 ≤ n → false ≡ bit (column_first first n) t
unfolding column_first
begins_past first n t h = sym (rw (le-ltb n 64 h) (bit-zero t))

module _ (tag link : List ℕ) (guarded : ℕ) (first : List ℕ) (t : ℕ) where
  abbrev walks : ℕ → ℕ → List ℕ → maybe.Option (List ℕ)
  walks = column_walk tag link guarded first t

  abbrev step : (ℕ → List ℕ → maybe.Option (List ℕ)) → ℕ → List ℕ → maybe.Option (List ℕ)
  step go_on n rights =
      walk_step (column_node tag link guarded) (column_first first) t go_on (column_node tag link guarded n) rights

  abbrev held_step : (ℕ → List ℕ → maybe.Option (List ℕ)) → ℕ → List ℕ → maybe.Option (List ℕ)
  held_step go_on n rights =
      walk_step (column_node tag link guarded) (column_first first) t go_on (held_node tag link guarded n) rights

  one_here : (left n : ℕ) (rights : List ℕ) → n < 64 → walks (suc left) n rights ≡ held_step (walks left) n rights
  unfolding walk column_node
  one_here left n rights l = ap (λ x. walk_step (column_node tag link guarded) (column_first first) t (walks left)
      (cond x (held_node tag link guarded n) bottom_node) rights) (lt-ltb n 64 l)

  -- From 64 on there is nothing.
  pub walk_past : (left n : ℕ) (rights : List ℕ) → 64 ≤ n → walks (suc left) n rights ≡ none
  unfolding walk walk_step column_node
  walk_past left n rights h = rw (le-ltb n 64 h)

  module _ (left n : ℕ) (rights : List ℕ) (here : n < 64) where
    -- At ε, ⊥ or a token the walk ends: with what was remembered, if with anything.
    pub walk_ends : get_or tag n 0 < 3 → (tail : List ℕ) → walks (suc left) n rights ≡ some tail → rights ≡ tail
    unfolding walk_step held_node node_of
    walk_ends h tail z = go (get_or tag n 0) h (sym (one_here left n rights here) ∙ z)
      where
        at_token : (b : Bool) → cond b (some rights) none ≡ some tail → rights ≡ tail
        at_token true z = some_same z
        at_token false z = absurd (none-not-some z)

        go : (k : ℕ) → k < 3
            → walk_step (column_node tag link guarded) (column_first first) t (walks left)
            (node_of k (get_or link n 0) (bit guarded n) n) rights ≡ some tail
            → rights ≡ tail
        go zero h z = absurd (none-not-some z)
        go (suc zero) h z = absurd (none-not-some z)
        go (suc (suc zero)) h z = at_token (eqb (get_or link n 0) t) z
        go (suc (suc (suc k))) h z = absurd (omega arith)

    -- A sequence or a repetition.
    pub walk_right : Remembers (get_or tag n 0) → walks (suc left) n rights ≡ walks left (n + 1) (get_or link n 0 ∷ rights)
    unfolding walk_step held_node node_of
    walk_right (inl e) = one_here left n rights here ∙ rw (e, add-one n)
    walk_right (inr e) = one_here left n rights here ∙ rw (e, add-one n)

    -- The walk goes on from the next node, and ends without a tail where there is none.
    abbrev pub goes_on : Option ℕ → maybe.Option (List ℕ)
    goes_on None = none
    goes_on (Some m) = walks left m rights

    pub walk_on : (get_or tag n 0 < 3 → ⊥) → (Remembers (get_or tag n 0) → ⊥) → (next : Option ℕ)
        → next ≡ next_node (get_or tag n 0) (get_or link n 0) n first t
        → walks (suc left) n rights ≡ goes_on next
    unfolding walk_step held_node node_of next_node
    walk_on a c next is = one_here left n rights here ∙ go (eqb (get_or tag n 0) 4) refl (eqb (get_or tag n 0) 5) refl (eqb (get_or tag n 0) 6) refl
        ∙ sym (ap goes_on is)
      where
        to : Option ℕ
        to = next_node (get_or tag n 0) (get_or link n 0) n first t

        either : (x : Bool) → cond x (walks left (suc n) rights) (walks left (get_or link n 0) rights)
            ≡ goes_on (cond x (Some (suc n)) (Some (get_or link n 0)))
        either true = refl
        either false = refl

        go : (x : Bool) → eqb (get_or tag n 0) 4 ≡ x → (y : Bool) → eqb (get_or tag n 0) 5 ≡ y → (z : Bool) → eqb (get_or tag n 0) 6 ≡ z
            → held_step (walks left) n rights ≡ goes_on to
        go true e y f z g = rw (eqb-true (get_or tag n 0) 4 e, add-one n) (either (bit (column_first first (suc n)) t))
        go false e true f z g = rw (eqb-true (get_or tag n 0) 5 f, add-one n)
        go false e false f true g = rw (eqb-true (get_or tag n 0) 6 g)
        go false e false f false g =
            rw (
              ne_eqb (get_or tag n 0) 0 (λ z. a (omega arith)),
              ne_eqb (get_or tag n 0) 1 (λ z. a (omega arith)),
              ne_eqb (get_or tag n 0) 2 (λ z. a (omega arith)),
              ne_eqb (get_or tag n 0) 3 (λ z. c (inl z)),
              e,
              f,
              g,
              ne_eqb (get_or tag n 0) 7 (λ z. c (inr z)),
            )

-- A node remembered before the others.
pub remembered : (rights : List ℕ) (start r : ℕ) → 0 < start → start ≤ length rights
    → drop (start - 1) (set rights (start - 1) r) ≡ r ∷ drop start rights
remembered rights start r h k =
    let e : suc (start - 1) ≡ start = omega arith in
    drop-cons (set rights (start - 1) r) (start - 1) 0 (rw length-set (omega arith))
    ∙ ap₂ ◌∷◌ (get_or-set_same rights (start - 1) r 0 (omega arith))
    (ap (λ i. drop i (set rights (start - 1) r)) e ∙ drop-set-lt start rights (start - 1) r (omega arith))

-- The state of a walk: it goes on from `at` as the whole walk does. `rights` has room for a node a step.
pub record Walking (tag link first : List ℕ) (node t : ℕ) (w : Walked) (at left : ℕ) : Type 0 where
  pub room : left ≤ w.start
  pub within : w.start ≤ 64
  pub full : length w.rights ≡ 64
  pub same : (guarded : ℕ) → column_walk tag link guarded first t left at (drop w.start w.rights)
      ≡ column_walk tag link guarded first t 64 node []

-- What the result of a walk stands for: the tail, if there is one.
abbrev pub Ended : List ℕ → List ℕ → List ℕ → ℕ → ℕ → Walked → Type 0
Ended tag link first node t w =
    (guarded : ℕ) (tail : List ℕ) → column_walk tag link guarded first t 64 node [] ≡ some tail → drop w.start w.rights ≡ tail

module _ {tag link first : List ℕ} {node t : ℕ} where
  -- The walk ends without a tail.
  ended_none : {w : Walked} {at left : ℕ} → Walking tag link first node t w at left
      → ((guarded : ℕ) → column_walk tag link guarded first t left at (drop w.start w.rights) ≡ none) → Ended tag link first node t w
  ended_none x h = λ guarded tail z. absurd (none-not-some (sym (h guarded) ∙ (x.same guarded ∙ z)))

  pub ended-steps : {w : Walked} {at : ℕ} → Walking tag link first node t w at 0 → Ended tag link first node t w
  unfolding walk
  ended-steps x = ended_none x (λ guarded. refl)

  module _ {w : Walked} {at : ℕ} (left : ℕ) (x : Walking tag link first node t w at (suc left)) where
    pub ended_past : 64 ≤ at → Ended tag link first node t w
    ended_past h = ended_none x (λ guarded. walk_past tag link guarded first t left at _ h)

    module _ (here : at < 64) where
      pub ended-here : get_or tag at 0 < 3 → Ended tag link first node t w
      ended-here h = λ guarded tail z. walk_ends tag link guarded first t left at _ here h tail (x.same guarded ∙ z)

      pub walking_right : Remembers (get_or tag at 0)
          → Walking tag link first node t (record { start = w.start - 1; rights = set w.rights (w.start - 1) (get_or link at 0) }) (at + 1) left
      walking_right e = let r = x.room in let i = x.within in let f = x.full in record {
        room = omega arith;
        within = omega arith;
        full = length-set w.rights (w.start - 1) (get_or link at 0) ∙ x.full;
        same = λ guarded. ap (column_walk tag link guarded first t left (at + 1))
            (remembered w.rights w.start (get_or link at 0) (omega arith) (omega arith))
            ∙ (sym (walk_right tag link guarded first t left at _ here e) ∙ x.same guarded);
      }

      module _ (a : get_or tag at 0 < 3 → ⊥) (c : Remembers (get_or tag at 0) → ⊥) where
        pub ended-nowhere : None ≡ next_node (get_or tag at 0) (get_or link at 0) at first t → Ended tag link first node t w
        ended-nowhere e = ended_none x (λ guarded. walk_on tag link guarded first t left at _ here a c None e)

        pub walking_on : (next : ℕ) → Some next ≡ next_node (get_or tag at 0) (get_or link at 0) at first t → Walking tag link first node t w next left
        walking_on next e = let r = x.room in record {
          room = omega arith;
          within = x.within;
          full = x.full;
          same = λ guarded. sym (walk_on tag link guarded first t left at _ here a c (Some next) e) ∙ x.same guarded;
        }

  -- The same state, with the steps that are left counted otherwise.
  pub recounted : {w : Walked} {at left more : ℕ} → left ≡ more → Walking tag link first node t w at left → Walking tag link first node t w at more
  recounted {w} {at} e x = subst (Walking tag link first node t w at) e x
