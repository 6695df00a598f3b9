-- One byte by the class table and by sets: the positions that it keeps, their follow sets, and the rule that ends with it. How a set's
-- positions are met one after the other is said in lexer's SetWalkLaws.
use Rattle.std.specs.Prelude.{◌≡◌, Bool, ◌&&◌, ◌||◌, cond, eqb, length, get_or, drop, Option}
use Rattle.std.proofs.Math.Path.{refl, sym, ap}
use Rattle.std.proofs.Common.{◌∙◌, arith, eqb-true, ne_eqb}
use Rattle.std.proofs.Math.Bool.{true, false}
use Rattle.std.proofs.Math.Bool as B
use mathlib.Core.List.{List, [], ◌∷◌}
use Rattle.std.proofs.Math.Option.{some}
use Prim.Native.Nat.{ℕ, suc, ◌+◌, ◌^◌, ◌≤◌, ◌<◌}
use Rattle.std.specs.Int.Bits.{bit_or, bit_and, or_zero_l}
use Rattle.basics.specs.Bits.{bit}
use Rattle.basics.proofs.laws.BitLaws.{bit-or, bit-and, bit_one_if, bit-zero, bit_ext_all}
use Rattle.lexer.specs.Positions.{Position}
use Rattle.lexer.specs.Walk.{has_byte, keep, follows, ended_rule}
use Rattle.lexer.specs.SetWalk.{members, members_from, set_walk}
use Rattle.lexer.proofs.laws.SetWalkLaws.{members_shorter, walk-meets-members}
use Rattle.lexer.proofs.laws.LowestPosition.{first_ended, ended-first}
use Rattle.scanner.specs.ClassTable.{having}
use Rattle.scanner.proofs.laws.ClassTableLaws.{having-first}
use Rattle.scanner.specs.Meaning.{rule_of, LeadsTo, HeldAt, Prepared}
use Rattle.scanner.specs.Sets.{joined, first_entry}

-- ---- the kept positions

-- One position's part, where e says whether it is the one that is asked for: then the two places are one.
same_place : (e held_i held_j has rest : Bool) → (e ≡ true → held_i ≡ held_j)
    → (((held_i && has) && e) || (held_j && rest)) ≡ (held_j && ((has && e) || rest))
same_place true true true true rest f = refl
same_place true true true false rest f = refl
same_place true true false has rest f = absurd (B.true≢false (f refl))
same_place true false true has rest f = absurd (B.true≢false (sym (f refl)))
same_place true false false has rest f = refl
same_place false held_i held_j has rest f = rw (B.and-false (held_i && has), B.and-false has)

keep-bit : (ps : List Position) (i held b j : ℕ) → bit (keep ps i held b) j ≡ (bit held j && bit (having ps i b) j)
unfolding keep having
keep-bit [] i held b j = rw (bit-zero j) (sym (B.and-false (bit held j)))
keep-bit (p ∷ ps) i held b j =
    bit-or (cond (bit held i && has_byte p b) (2 ^ i) 0) (keep ps (suc i) held b) j
    ∙ rw (bit_one_if (bit held i && has_byte p b) i j, keep-bit ps (suc i) held b j, having-first p ps i b j)
    (same_place (eqb i j) (bit held i) (bit held j) (has_byte p b) (bit (having ps (suc i) b) j) (λ e. ap (bit held) (eqb-true i j e)))

-- One `and` gives the positions that a byte keeps.
keep-and : (ps : List Position) (held b : ℕ) → bit_and held (having ps 0 b) ≡ keep ps 0 held b
keep-and ps held b =
    bit_ext_all (bit_and held (having ps 0 b)) (keep ps 0 held b) (λ j. bit-and held (having ps 0 b) j ∙ sym (keep-bit ps 0 held b j))

-- Fewer that are held, fewer that are kept.
pub and-keep : (ps : List Position) (set held b : ℕ) → bit_and set (keep ps 0 held b) ≡ keep ps 0 (bit_and set held) b
and-keep ps set held b =
    bit_ext_all (bit_and set (keep ps 0 held b)) (keep ps 0 (bit_and set held) b)
    (λ j. simp (bit-and, keep-bit) (sym (B.and_assoc (bit set j) (bit held j) (bit (having ps 0 b) j))))

-- No position past the last is in the set of a byte.
having_above : (ps : List Position) (i b j : ℕ) → i + length ps ≤ j → bit (having ps i b) j ≡ false
unfolding having
having_above [] i b j h = bit-zero j
having_above (p ∷ ps) i b j h =
    having-first p ps i b j ∙ rw (ne_eqb i j (λ e. omega arith), B.and-false (has_byte p b)) (having_above ps (suc i) b j (omega arith))

-- ---- the tables at a set's positions

module _ (tables : List ℕ) (last : ℕ) where
  abbrev follow_sets : List ℕ
  follow_sets = drop 256 tables

  abbrev rules : List ℕ
  rules = drop 320 tables

  follows_members : (ps : List Position) (i kept : ℕ) → HeldAt tables last i ps
      → joined follow_sets (members_from kept i (length ps)) ≡ follows ps i kept
  unfolding follows joined members_from
  follows_members [] i kept h = refl
  follows_members (p ∷ ps) i kept h = go (bit kept i) (follows_members ps (suc i) kept h.3)
    where
      go : (b : Bool) → joined follow_sets (members_from kept (suc i) (length ps)) ≡ follows ps (suc i) kept
          → joined follow_sets (cond b (i ∷ members_from kept (suc i) (length ps)) (members_from kept (suc i) (length ps)))
          ≡ bit_or (cond b p.follow 0) (follows ps (suc i) kept)
      go true e = rw (h.0, e)
      go false e = e ∙ sym (or_zero_l (follows ps (suc i) kept))

  ended_members : (ps : List Position) (i kept : ℕ) → HeldAt tables last i ps
      → first_entry rules (members_from (bit_and kept last) i (length ps)) ≡ first_ended ps i kept
  unfolding first_ended first_entry members_from
  ended_members [] i kept h = refl
  ended_members (p ∷ ps) i kept h =
      ap (λ (x : Bool). first_entry rules (cond x (i ∷ rest) rest)) (bit-and kept last i ∙ ap (λ (x : Bool). bit kept i && x) h.2)
      ∙ go (bit kept i && p.last) (ended_members ps (suc i) kept h.3)
    where
      rest : List ℕ
      rest = members_from (bit_and kept last) (suc i) (length ps)

      go : (b : Bool) → first_entry rules rest ≡ first_ended ps (suc i) kept
          → first_entry rules (cond b (i ∷ rest) rest) ≡ elim b [ true ↦ some p.rule | false ↦ first_ended ps (suc i) kept ]
      go true e = ap some h.1
      go false e = e

  module _ (ps : List Position) (prepared : Prepared ps last tables) where
    pub kept_is : (held b : ℕ) → b < 256 → bit_and held (get_or tables b 0) ≡ keep ps 0 held b
    kept_is held b h = ap (bit_and held) (prepared.own_classes b h) ∙ keep-and ps held b

    -- No position past the last is kept.
    kept_high : (held b j : ℕ) → 0 + length ps ≤ j → bit (keep ps 0 held b) j ≡ false
    kept_high held b j h = keep-bit ps 0 held b j ∙ rw (having_above ps 0 b j h) (B.and-false (bit held j))

    -- The follow sets of a set's positions together, and the rule of the lowest that is last, where no position past the last is in it.
    pub follows_of : (kept : ℕ) → ((j : ℕ) → 0 + length ps ≤ j → bit kept j ≡ false) → joined follow_sets (members kept) ≡ follows ps 0 kept
    unfolding members
    follows_of kept high =
        ap (joined follow_sets) (members_shorter kept 0 (length ps) 64 prepared.few high) ∙ follows_members ps 0 kept prepared.held

    pub ended_of : (kept : ℕ) → ((j : ℕ) → 0 + length ps ≤ j → bit kept j ≡ false)
        → first_entry rules (members (bit_and kept last)) ≡ ended_rule ps 0 kept
    unfolding members
    ended_of kept high =
        ap (first_entry rules) (members_shorter (bit_and kept last) 0 (length ps) 64 prepared.few (λ j h. bit-and kept last j ∙ rw (high j h)))
        ∙ ended_members ps 0 kept prepared.held
        ∙ sym (ended-first ps 0 prepared.never_falling 0 kept)

    -- What the kept positions of a byte lead to, and the rule that ends with it.
    pub follows-kept : (held b kept : ℕ) → kept ≡ keep ps 0 held b → joined follow_sets (members kept) ≡ follows ps 0 kept
    follows-kept held b kept e =
        follows_of kept (λ j h. ap (λ (x : ℕ). bit x j) e ∙ kept_high held b j h)

    pub ended-kept : (held b kept : ℕ) → kept ≡ keep ps 0 held b → first_entry rules (members (bit_and kept last)) ≡ ended_rule ps 0 kept
    ended-kept held b kept e = ended_of kept (λ j h. ap (λ (x : ℕ). bit x j) e ∙ kept_high held b j h)

    -- What a byte leads to, by the follow sets and the lowest rule of the positions that it keeps.
    pub leads_to : (held b next : ℕ) (e : Option ℕ) → b < 256
        → let kept = bit_and held (get_or tables b 0) in
        kept < 2 ^ 64 → next ≡ joined follow_sets (set_walk kept) → rule_of e ≡ first_entry rules (members (bit_and kept last))
        → LeadsTo ps held b (record { held = next; ended = e })
    leads_to held b next e h small f g =
        let kept = kept_is held b h in record {
          next_held = f ∙ ap (joined follow_sets) (walk-meets-members _ small) ∙ follows-kept held b _ kept ∙ ap (follows ps 0) kept;
          rule_ended = g ∙ ended-kept held b _ kept ∙ ap (ended_rule ps 0) kept;
        }
