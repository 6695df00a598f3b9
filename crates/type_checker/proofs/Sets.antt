-- Sets of nodes as numbers: all nodes, the last member and what is left without it, and which nodes go by a node. Types are not spoken of.
use mathlib.Core.Path.{◌≡◌, refl, sym, ap, subst, ◌∙◌}
use mathlib.Core.Bool.{Bool, true, false, ◌||◌, cond, or-true, or-false}
use mathlib.Core.List.{List}
use mathlib.Core.Logic.{◌⊎◌, inl, inr, ⊎_elim}
use Prim.Native.Nat.{ℕ, suc, ◌+◌, ◌-◌, ◌*◌, ◌%◌, ◌^◌, ◌≤◌, ◌<◌}
use native.Mathlib.Omega.{arith}
use native.Mathlib.Nat.{pow-suc, mod-eq_of_lt}
use lib.Bits.{bit_or, and_mask, or_shifted_r}
use lib.Dec.{eqb}
use lib.Count.{count_leading_zeros, leading_top}
use lib.ListN.{get_or, set, length, replicate, get_or-replicate, length-replicate, length-set, get_or-eq_default}
use lib.Pow.{pow_pos, pow_mono}
use lib.Seq.{get_or-set_same}
use borrow.Author.Tests.{eq-eqb, eqb-true}
use Rattle.basics.specs.Bits.{bit, ◌∈◌}
use Rattle.basics.proofs.laws.BitLaws.{bit-and, bit-or, bit_one, bit_high, ∈_cases, ∈_left, ∈_right, ∈_zero, ∈_one, ∈_self}
use Rattle.basics.proofs.laws.Order.{lt-or-le}
use Rattle.basics.proofs.laws.Truth.{and-true-second, or-true_left}
use Rattle.sheet.specs.Limits.{most_tokens}
use Rattle.types.specs.Nodes.{Node, epsilon_node, bottom_node, token_node, sequence_node, alternative_node, fixed_point_node, variable_node, repetition_node}
use Rattle.types.specs.laws.NodeRanges.{NodeInRange}
use Rattle.columns.specs.HeldNodes.{node_of, held_node}
use Rattle.columns.specs.laws.Within.{LinksFit}
use Rattle.columns.specs.declared.NodeLinks.{NodeLinks}
use Rattle.type_checker.specs.Dependents.{GoesBy, DependentsBelow}
use Rattle.type_checker.proofs.laws.RaisedLaws.{set_entry}

-- ---- all nodes

pub all_in : (count n : ℕ) → n < count → n ∈ 2 ^ count - 1
all_in count n l =
    let small : 2 ^ n < 2 ^ count = omega (arith, pow_mono {i = suc n} {j = count} l, pow-suc 2 n, pow_pos n) in
    and-true-second (bit (2 ^ n) n) (bit (2 ^ count - 1) n)
    (sym (bit-and (2 ^ n) (2 ^ count - 1) n) ∙ ap (λ (s : ℕ). bit s n) (and_mask (2 ^ n) count ∙ mod-eq_of_lt small) ∙ ∈_self n)

pub no_more_in : (count n : ℕ) → n ∈ 2 ^ count - 1 → n < count
no_more_in count n h = ⊎_elim (λ l. l)
    (λ l. ∈_zero {X = n < count} n (bit_zero_of ∙ sym (bit_high count (2 ^ count - 1) n (omega (arith, pow_pos count)) l) ∙ h))
    (lt-or-le n count)
  where
    bit_zero_of : bit 0 n ≡ false
    bit_zero_of = bit_high 0 0 n (omega arith) (omega arith)

-- ---- the last member

-- The zeros above it tell its place.
pub last_place : (s : ℕ) → 0 < s → s < 2 ^ 64 → (place : ℕ) × (count_leading_zeros 64 s + suc place ≡ 64) × (2 ^ place ≤ s) × (s < 2 ^ suc place)
last_place s more small = leading_top 64 s more small

module _ (s i : ℕ) (low : 2 ^ i ≤ s) (high : s < 2 ^ suc i) where
  -- The members are the last one and those of what is left.
  last_split : (n : ℕ) → bit s n ≡ (bit (s - 2 ^ i) n || eqb i n)
  last_split n =
      let e : s ≡ 1 * 2 ^ i + (s - 2 ^ i) = omega arith in
      ap (λ (x : ℕ). bit x n) (e ∙ sym (or_shifted_r 1 i (s - 2 ^ i) (omega (arith, pow-suc 2 i))))
      ∙ bit-or (s - 2 ^ i) (1 * 2 ^ i) n
      ∙ ap (λ (b : Bool). bit (s - 2 ^ i) n || b) (ap (λ (x : ℕ). bit x n) (omega arith) ∙ bit_one i n)

  pub last_in : i ∈ s
  last_in = last_split i ∙ ap (λ (b : Bool). bit (s - 2 ^ i) i || b) (eq-eqb i i refl) ∙ or-true (bit (s - 2 ^ i) i)

  pub was_in : (n : ℕ) → n ∈ s - 2 ^ i → n ∈ s
  was_in n h = last_split n ∙ or-true_left (bit (s - 2 ^ i) n) (eqb i n) h

  pub still_in : (n : ℕ) → n ∈ s → (n ≡ i → ⊥) → n ∈ s - 2 ^ i
  still_in n h other = go (eqb i n) refl (sym (last_split n) ∙ h)
    where
      go : (b : Bool) → eqb i n ≡ b → (bit (s - 2 ^ i) n || eqb i n) ≡ true → bit (s - 2 ^ i) n ≡ true
      go true e m = absurd (other (sym (eqb-true i n e)))
      go false e m = sym (or-false (bit (s - 2 ^ i) n)) ∙ ap (λ (b : Bool). bit (s - 2 ^ i) n || b) (sym e) ∙ m

-- ---- which nodes go by a node

-- The tags of nodes that go by the next one, and by their link, as the code asks for them.
abbrev by_next : ℕ → Bool
by_next tag = ((eqb tag 3 || eqb tag 4) || eqb tag 5) || eqb tag 7

abbrev by_link : ℕ → Bool
by_link tag = ((eqb tag 3 || eqb tag 4) || eqb tag 6) || eqb tag 7

goes_by_either : (n tag link i k : ℕ) (guarded : Bool) → NodeInRange most_tokens n (node_of tag link guarded i)
    → GoesBy (node_of tag link guarded i) k
    → ((by_next tag ≡ true) × (k ≡ suc i) × (suc i < n)) ⊎ ((by_link tag ≡ true) × (k ≡ link) × (link < n))
unfolding node_of GoesBy
goes_by_either n tag link i k guarded =
    go (eqb tag 0) (eqb tag 1) (eqb tag 2) (eqb tag 3) (eqb tag 4) (eqb tag 5) (eqb tag 6) (eqb tag 7)
  where
    pick : Bool → Bool → Bool → Bool → Bool → Bool → Bool → Bool → Node
    pick a b c d e f v r =
        cond a epsilon_node (cond b bottom_node (cond c (token_node link) (cond d (sequence_node (suc i) link)
        (cond e (alternative_node (suc i) link) (cond f (fixed_point_node (suc i)) (cond v (variable_node link guarded)
        (cond r (repetition_node (suc i) link) bottom_node)))))))

    go : (a b c d e f v r : Bool) → NodeInRange most_tokens n (pick a b c d e f v r) → GoesBy (pick a b c d e f v r) k
        → (((((d || e) || f) || r) ≡ true) × (k ≡ suc i) × (suc i < n)) ⊎ (((((d || e) || v) || r) ≡ true) × (k ≡ link) × (link < n))
    go false false false true e f v r w (inl q) = inl (refl, q, w.0)
    go false false false true e f v r w (inr q) = inr (refl, q, w.1)
    go false false false false true f v r w (inl q) = inl (refl, q, w.0)
    go false false false false true f v r w (inr q) = inr (refl, q, w.1)
    go false false false false false true v r w q = inl (refl, q, w)
    go false false false false false false true r w q = inr (refl, q, w)
    go false false false false false false false true w (inl q) = inl (refl, q, w.0)
    go false false false false false false false true w (inr q) = inr (refl, q, w.1)
    go true b c d e f v r w q = absurd q
    go false true c d e f v r w q = absurd q
    go false false true d e f v r w q = absurd q
    go false false false false false false false false w q = absurd q

-- Node i joins a set, or does not.
kept_in : (member : Bool) (s i n : ℕ) → n ∈ s → n ∈ cond member (bit_or s (2 ^ i)) s
kept_in true s i n h = ∈_left s (2 ^ i) n h
kept_in false s i n h = h

new_in : (member : Bool) (s i n : ℕ) → n ∈ cond member (bit_or s (2 ^ i)) s → (n ∈ s) ⊎ (n ≡ i)
new_in true s i n h = ⊎_elim inl (λ m. inr (sym (∈_one i n m))) (∈_cases s (2 ^ i) n h)
new_in false s i n h = inl h

here_in : (member : Bool) (s i : ℕ) → member ≡ true → i ∈ cond member (bit_or s (2 ^ i)) s
here_in member s i e = rw e (∈_right s (2 ^ i) i (∈_self i))

-- Node i joins one of the sets, or none.
module _ (sets : List ℕ) (a i : ℕ) (member : Bool) (new : ℕ) (new_is : new ≡ cond member (bit_or (get_or sets a 0) (2 ^ i)) (get_or sets a 0)) where
  abbrev joined : List ℕ
  joined = set sets a new

  joined_kept : (n k : ℕ) → n ∈ get_or sets k 0 → n ∈ get_or joined k 0
  joined_kept n k = set_entry 0 (λ m s. n ∈ get_or sets m 0 → n ∈ s) sets a new (λ m h. h) (λ h. rw new_is (kept_in member (get_or sets a 0) i n h)) k

  joined_new : (n k : ℕ) → n ∈ get_or joined k 0 → (n ∈ get_or sets k 0) ⊎ (n ≡ i)
  joined_new n k = set_entry 0 (λ m s. n ∈ s → (n ∈ get_or sets m 0) ⊎ (n ≡ i)) sets a new (λ m h. inl h)
      (λ h. new_in member (get_or sets a 0) i n (subst (λ (s : ℕ). n ∈ s) new_is h)) k

  joined_here : member ≡ true → a < length sets → i ∈ get_or joined a 0
  joined_here e l = rw (get_or-set_same sets a new 0 l, new_is) (here_in member (get_or sets a 0) i e)

-- The sets after the nodes below i.
pub record Joining (links : NodeLinks) (i : ℕ) (sets : List ℕ) : Type 0 where
  pub long : length sets ≡ 64
  pub below : DependentsBelow links i sets

module _ (links : NodeLinks) where
  pub joining_first : Joining links 0 (replicate 64 0)
  joining_first = record {
    long = length-replicate {A = ℕ} 64 0;
    below = record { all_in = λ n k l. absurd (omega arith); below_count = λ n k h. empty n k h (lt-or-le k 64) };
  }
    where
      empty : (n k : ℕ) → n ∈ get_or (replicate 64 0) k 0 → (k < 64) ⊎ (64 ≤ k) → n < 0
      empty n k h (inl l) = ∈_zero n (subst (λ (s : ℕ). n ∈ s) (get_or-replicate {A = ℕ} 64 k 0 0 l) h)
      empty n k h (inr l) =
          ∈_zero n (subst (λ (s : ℕ). n ∈ s) (get_or-eq_default (replicate 64 0) 0 {n = k} (omega (arith, length-replicate {A = ℕ} 64 0))) h)

  module _ (fit : LinksFit links) (i : ℕ) (sets : List ℕ) (h : Joining links i sets) (more : i < links.count) where
    abbrev to_next : Bool
    to_next = by_next (get_or links.tag i 0)

    abbrev to_link : Bool
    to_link = by_link (get_or links.tag i 0)

    abbrev next : ℕ
    next = (i + 1) % 64

    abbrev to : ℕ
    to = get_or links.link i 0 % 64

    module _ (part other : ℕ) (part_is : part ≡ cond to_next (bit_or (get_or sets next 0) (2 ^ i)) (get_or sets next 0))
        (other_is : let once = set sets next part in other ≡ cond to_link (bit_or (get_or once to 0) (2 ^ i)) (get_or once to 0)) where
      abbrev once : List ℕ
      once = joined sets next i to_next part part_is

      abbrev twice : List ℕ
      twice = joined once to i to_link other other_is

      once_long : length once ≡ 64
      once_long = length-set sets next part ∙ h.long

      kept : (n k : ℕ) → n ∈ get_or sets k 0 → n ∈ get_or twice k 0
      kept n k m = joined_kept once to i to_link other other_is n k (joined_kept sets next i to_next part part_is n k m)

      new : (n k : ℕ) → n ∈ get_or twice k 0 → (n ∈ get_or sets k 0) ⊎ (n ≡ i)
      new n k m = ⊎_elim (joined_new sets next i to_next part part_is n k) inr (joined_new once to i to_link other other_is n k m)

      here : (k : ℕ) → GoesBy (held_node links.tag links.link links.guarded i) k → i ∈ get_or twice k 0
      unfolding held_node
      here k g = ⊎_elim
          (λ c. subst (λ (x : ℕ). i ∈ get_or twice x 0) (omega (arith, c.1, c.2, fit.count_fits))
          (joined_kept once to i to_link other other_is i next (joined_here sets next i to_next part part_is c.0 (omega (arith, h.long)))))
          (λ c. subst (λ (x : ℕ). i ∈ get_or twice x 0) (omega (arith, c.1, c.2, fit.count_fits))
          (joined_here once to i to_link other other_is c.0 (omega (arith, once_long))))
          (goes_by_either links.count (get_or links.tag i 0) (get_or links.link i 0) i k (bit links.guarded i) (fit.all_within i more) g)

      pub joining_next : Joining links (i + 1) twice
      joining_next = record {
        long = length-set once to other ∙ once_long;
        below = record {
          all_in = λ n k l g. in_all n k g (lt-or-le n i) l;
          below_count = λ n k m. ⊎_elim (λ w. omega (arith, h.below.below_count n k w)) (λ e. omega arith) (new n k m);
        };
      }
        where
          in_all : (n k : ℕ) → GoesBy (held_node links.tag links.link links.guarded n) k → (n < i) ⊎ (i ≤ n) → n < i + 1
              → n ∈ get_or twice k 0
          in_all n k g (inl l) m = kept n k (h.below.all_in n k l g)
          in_all n k g (inr l) m =
              let e : n ≡ i = omega arith in
              rw e (here k (subst (λ (x : ℕ). GoesBy (held_node links.tag links.link links.guarded x) k) e g))
