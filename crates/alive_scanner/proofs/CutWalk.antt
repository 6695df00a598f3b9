-- The walk with alive positions, as the code goes: one byte a turn, and the match that the positions kept last stand for once it stops.
use mathlib.Core.Path.{◌≡◌, refl, sym, ap, ap₂, ◌∙◌}
use mathlib.Core.Bool.{Bool, true, false, cond}
use mathlib.Core.List.{List, ◌∷◌}
use mathlib.Core.Logic.{◌⊎◌, inl, inr}
use mathlib.Core.Option.{Option, some}
use Prim.Native.Nat.{ℕ, zero, suc, ◌+◌, ◌-◌, ◌≤◌, ◌<◌}
use native.Mathlib.Omega.{arith}
use native.Mathlib.Numerals.{add-one}
use lib.Bits.{bit_or, bit_and, or_zero_l}
use lib.ListN.{length, get_or, drop, drop_of_length-le}
use lib.Seq.{drop-cons}
use borrow.Author.Tests.{ne_eqb}
use Rattle.basics.specs.Bits.{bit}
use Rattle.lexer.specs.Positions.{Position}
use Rattle.lexer.specs.Match.{Match, no_match, matched, longer}
use Rattle.lexer.specs.Walk.{keep, follows, ended_rule, longest_match}
use Rattle.lexer.specs.Alive.{match_bytes, last_set, leads_to, alive_before, alive, cut_walk, cut_bytes}
use Rattle.lexer.specs.SetWalk.{members, members_from}
use Rattle.lexer.proofs.laws.AliveLaws.{cut_match, cut_ends}
use Rattle.lexer.proofs.laws.SetWalkLaws.{members-zero}
use Rattle.scanner.specs.Meaning.{Prepared}
use Rattle.scanner.specs.Sets.{joined, first_entry, match_by}
use Rattle.scanner.proofs.laws.ByteLaws.{and-keep, follows-kept, ended-kept}
use Rattle.leading_sets.specs.Leading.{over_positions, following_part, following}

-- The positions that a byte keeps of those held, alive ones alone, are positions that it keeps of some.
kept_of : (ps : List Position) (held b : ℕ) (text : List ℕ)
    → bit_and held (alive ps (b ∷ text)) ≡ keep ps 0 (bit_and held (bit_or (last_set ps 0) (leads_to ps 0 (alive ps text)))) b
unfolding alive alive_before
kept_of ps held b text = and-keep ps held (bit_or (last_set ps 0) (leads_to ps 0 (alive ps text))) b

-- What follows a set, over the positions, is what its members' follow sets are together.
following-members : (follow : List ℕ) (set i n : ℕ) → over_positions (following_part follow set) i n ≡ joined follow (members_from set i n)
unfolding over_positions following_part joined members_from
following-members follow set i zero = refl
following-members follow set i (suc n) = go (bit set i) (following-members follow set (suc i) n)
  where
    go : (b : Bool) → over_positions (following_part follow set) (suc i) n ≡ joined follow (members_from set (suc i) n)
        → bit_or (cond b (get_or follow i 0) 0) (over_positions (following_part follow set) (suc i) n)
        ≡ joined follow (cond b (i ∷ members_from set (suc i) n) (members_from set (suc i) n))
    go true e = ap (bit_or (get_or follow i 0)) e
    go false e = or_zero_l (over_positions (following_part follow set) (suc i) n) ∙ e

module _ (ps : List Position) (last : ℕ) (tables : List ℕ) (prepared : Prepared ps last tables) (held b kept : ℕ) (text : List ℕ)
    (e : kept ≡ bit_and held (alive ps (b ∷ text))) where
  follows_alive : following (drop 256 tables) kept ≡ follows ps 0 kept
  unfolding members
  follows_alive =
      following-members (drop 256 tables) kept 0 64 ∙ follows-kept tables last ps prepared _ b kept (e ∙ kept_of ps held b text)

  ended_alive : first_entry (drop 320 tables) (members (bit_and kept last)) ≡ ended_rule ps 0 kept
  ended_alive = ended-kept tables last ps prepared _ b kept (e ∙ kept_of ps held b text)

pub follows-at : (ps : List Position) (last : ℕ) (tables : List ℕ) → Prepared ps last tables → (text : List ℕ) (held q next : ℕ) → q < length text
    → next ≡ bit_and held (alive ps (drop q text)) → following (drop 256 tables) next ≡ follows ps 0 next
follows-at ps last tables prepared text held q next h e =
    follows_alive ps last tables prepared held (get_or text q 0) next (drop (suc q) text)
    (e ∙ ap (λ (l : List ℕ). bit_and held (alive ps l)) (drop-cons text q 0 h))

-- The walk from a place has come to place q: no byte is kept yet, or `kept` are the positions that the latest one kept.
pub record KeptAt (ps : List Position) (first : ℕ) (text : List ℕ) (place q held kept : ℕ) : Type 0 where
  pub onward : place < q
  pub some_kept : kept ≡ 0 → ⊥
  pub held_earlier : ℕ
  pub byte : ℕ
  pub kept_alive : kept ≡ bit_and held_earlier (alive ps (byte ∷ drop q text))
  pub held_after : held ≡ follows ps 0 kept
  pub best : Match
  pub walked : cut_walk ps held (drop q text) (q - place) (longer (ended_rule ps 0 kept) (q - place) best) ≡ longest_match ps first (drop place text)

abbrev pub CutTo : List Position → ℕ → List ℕ → ℕ → ℕ → ℕ → ℕ → Type 0
CutTo ps first text place q held kept = ((kept ≡ 0) × (q ≡ place) × (held ≡ first)) ⊎ KeptAt ps first text place q held kept

module _ (ps : List Position) (first : ℕ) (text : List ℕ) (place : ℕ) where
  -- What is held follows from the positions kept.
  pub held-follows : {q held kept : ℕ} → CutTo ps first text place q held kept → (kept ≡ 0 → ⊥) → held ≡ follows ps 0 kept
  held-follows (inl z) h = absurd (h z.0)
  held-follows (inr k) h = k.held_after

  -- One byte more.
  cut_turn : (held q n next : ℕ) (m : Match) → q < length text → next ≡ bit_and held (alive ps (drop q text)) → (next ≡ 0 → ⊥)
      → cut_walk ps (follows ps 0 next) (drop (q + 1) text) (suc n) (longer (ended_rule ps 0 next) (suc n) m) ≡ cut_walk ps held (drop q text) n m
  unfolding cut_walk
  cut_turn held q n next m h e kept_some =
      let d = drop-cons text q 0 h in
      let f : bit_and held (alive ps (get_or text q 0 ∷ drop (suc q) text)) ≡ next = ap (λ (l : List ℕ). bit_and held (alive ps l)) (sym d) ∙ sym e in
      rw (d, f, ne_eqb next 0 kept_some, add-one q)

  pub cut_step : (held q kept next held' : ℕ) → place ≤ q → q < length text → next ≡ bit_and held (alive ps (drop q text)) → (next ≡ 0 → ⊥)
      → held' ≡ follows ps 0 next → CutTo ps first text place q held kept → CutTo ps first text place (q + 1) held' next
  cut_step held q kept next held' l h e kept_some f old = inr (record {
    onward = omega arith;
    some_kept = kept_some;
    held_earlier = held;
    byte = get_or text q 0;
    kept_alive = e ∙ ap (λ (x : List ℕ). bit_and held (alive ps x)) (drop-cons text q 0 h ∙ ap (λ (k : ℕ). get_or text q 0 ∷ drop k text) (sym (add-one q)));
    held_after = f;
    best = (so_far old).0;
    walked =
        let n : (q + 1) - place ≡ suc (q - place) = omega arith in
        rw (n, f) (cut_turn held q (q - place) next (so_far old).0 h e kept_some) ∙ (so_far old).1;
  })
    where
      so_far : CutTo ps first text place q held kept
          → (m : Match) × (cut_walk ps held (drop q text) (q - place) m ≡ longest_match ps first (drop place text))
      so_far (inl z) =
          let n : q - place ≡ 0 = omega (arith, z.1) in
          (no_match, rw (n, z.1, z.2) (cut_match ps first (drop place text)))
      so_far (inr k) = (longer (ended_rule ps 0 kept) (q - place) k.best, k.walked)

-- The walk stops at a place: at the text's end, or where no held position is alive.
abbrev pub Stops : List Position → List ℕ → ℕ → ℕ → Type 0
Stops ps text held q = (length text ≤ q) ⊎ ((q < length text) × (bit_and held (alive ps (drop q text)) ≡ 0))

module _ (ps : List Position) (text : List ℕ) (held q : ℕ) where
  head_kept : q < length text → bit_and held (alive ps (drop q text)) ≡ 0 → bit_and held (alive ps (get_or text q 0 ∷ drop (suc q) text)) ≡ 0
  head_kept h z = ap (λ (l : List ℕ). bit_and held (alive ps l)) (sym (drop-cons text q 0 h)) ∙ z

  no_bytes : Stops ps text held q → cut_bytes ps held (drop q text) ≡ 0
  unfolding cut_bytes
  no_bytes (inl h) = rw (drop_of_length-le text {i = q} h)
  no_bytes (inr (h, z)) = rw (drop-cons text q 0 h, head_kept h z)

  no_more : Stops ps text held q → (n : ℕ) (m : Match) → cut_walk ps held (drop q text) n m ≡ m
  unfolding cut_walk
  no_more (inl h) n m = rw (drop_of_length-le text {i = q} h)
  no_more (inr (h, z)) n m = rw (drop-cons text q 0 h, head_kept h z)

-- Where it stops, the positions kept last end the longest match.
module _ (ps : List Position) (last : ℕ) (tables : List ℕ) (prepared : Prepared ps last tables) (first : ℕ) (text : List ℕ) (place q held kept : ℕ)
    (stops : Stops ps text held q) where
  pub cut_found : CutTo ps first text place q held kept
      → (match_by (drop 320 tables) (bit_and kept last) (q - place) ≡ longest_match ps first (drop place text))
      × (q ≡ place + match_bytes (match_by (drop 320 tables) (bit_and kept last) (q - place)))
  unfolding match_by first_entry longer match_bytes
  cut_found (inl (z, e, f)) =
      let none_found : match_by (drop 320 tables) (bit_and kept last) (q - place) ≡ no_match = rw (z, members-zero) in (
        none_found
            ∙ sym (no_more ps text held q stops 0 no_match)
            ∙ ap₂ (λ (h k : ℕ). cut_walk ps h (drop k text) 0 no_match) f e
            ∙ cut_match ps first (drop place text),
        rw none_found (omega (arith, e)),
      )
  cut_found (inr k) =
      let ends = cut_ends ps k.held_earlier k.byte (drop q text) (λ z. k.some_kept (k.kept_alive ∙ z))
      (rw (← k.kept_alive, ← k.held_after) (no_bytes ps text held q stops)) in
      let ended : ended_rule ps 0 kept ≡ some ends.0 = ap (ended_rule ps 0) k.kept_alive ∙ ends.1 in
      let found : match_by (drop 320 tables) (bit_and kept last) (q - place) ≡ matched ends.0 (q - place) =
      ap (λ (o : Option ℕ). longer o (q - place) no_match) (ended_alive ps last tables prepared k.held_earlier k.byte kept (drop q text) k.kept_alive ∙ ended) in (
        found
            ∙ sym (ap (λ (o : Option ℕ). longer o (q - place) k.best) ended)
            ∙ sym (no_more ps text held q stops (q - place) (longer (ended_rule ps 0 kept) (q - place) k.best))
            ∙ k.walked,
        rw found (omega (arith, k.onward)),
      )
