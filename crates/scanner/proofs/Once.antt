-- The walk that notes no match on the way: how far it goes, and which of the two it tells in the end, the match or the bytes. That it finds
-- the longest match is said in Text.
use mathlib.Core.Path.{◌≡◌, refl, sym, ap, ap₂, ◌∙◌}
use mathlib.Core.List.{List}
use mathlib.Core.Option.{Option, none, some}
use Prim.Native.Nat.{ℕ, suc, ◌+◌, ◌≤◌, ◌<◌}
use native.Mathlib.Omega.{arith}
use native.Mathlib.Numerals.{add-one}
use lib.ListN.{length, drop, get_or, drop_of_length-le}
use lib.Seq.{drop-cons}
use borrow.Author.Tests.{eq-eqb, ne_eqb}
use Rattle.lexer.specs.Positions.{Position}
use Rattle.lexer.specs.Match.{Match, no_match, matched, longer}
use Rattle.lexer.specs.Walk.{keep, follows, ended_rule, walk, longest_match}
use Rattle.lexer.specs.Alive.{walk_bytes, match_bytes, ends_with, in_vain, told_by, told}
use Rattle.lexer.proofs.laws.ToldLaws.{told-none, told-whole, told_past, longer_bytes}
use Rattle.scanner.proofs.Text.{walk-start, walk-turn, walk_stops, walk_end}

module _ (ps : List Position) (text : List ℕ) where
  -- ---- how far the walk goes

  -- A byte that keeps positions.
  bytes_turn : (held n kept : ℕ) → n < length text → kept ≡ keep ps 0 held (get_or text n 0) → (kept ≡ 0 → ⊥)
      → walk_bytes ps held (drop n text) ≡ suc (walk_bytes ps (follows ps 0 kept) (drop (n + 1) text))
  unfolding walk_bytes
  bytes_turn held n kept h k some_kept =
      rw (k, drop-cons text n 0 h, add-one n, ne_eqb (keep ps 0 held (get_or text n 0)) 0 (λ e. some_kept (k ∙ e)))

  -- From the held positions on, with n bytes behind it, the walk goes no further.
  pub record Stops (held n : ℕ) : Type 0 where
    pub no_bytes : walk_bytes ps held (drop n text) ≡ 0
    pub no_more : (m : Match) → m ≡ walk ps held (drop n text) n m

  bytes_stop : (held n : ℕ) → n < length text → keep ps 0 held (get_or text n 0) ≡ 0 → walk_bytes ps held (drop n text) ≡ 0
  unfolding walk_bytes
  bytes_stop held n h k = rw (drop-cons text n 0 h, eq-eqb (keep ps 0 held (get_or text n 0)) 0 k)

  pub stops_inside : (held n : ℕ) → n < length text → keep ps 0 held (get_or text n 0) ≡ 0 → Stops held n
  stops_inside held n h k = record { no_bytes = bytes_stop held n h k; no_more = λ m. walk_stops ps text held n m h k }

  bytes_end : (held n : ℕ) → length text ≤ n → walk_bytes ps held (drop n text) ≡ 0
  unfolding walk_bytes
  bytes_end held n h = rw (drop_of_length-le text {i = n} h)

  pub stops_at_end : (held n : ℕ) → length text ≤ n → Stops held n
  stops_at_end held n h = record { no_bytes = bytes_end held n h; no_more = λ m. walk_end ps text held n m h }

  -- ---- where the walk is

  module _ (first : ℕ) where
    -- Some bytes are behind it. The latest one kept positions, and any match that ended before it has fewer bytes.
    pub record OnWay (kept held n : ℕ) : Type 0 where
      pub some_kept : kept ≡ 0 → ⊥
      pub by_byte : (before : ℕ) × (b : ℕ) × (kept ≡ keep ps 0 before b)
      pub following : held ≡ follows ps 0 kept
      pub bytes : n + walk_bytes ps held (drop n text) ≡ walk_bytes ps first text
      pub earlier : Match
      pub earlier_shorter : match_bytes earlier < n
      pub found : walk ps held (drop n text) n (longer (ended_rule ps 0 kept) n earlier) ≡ longest_match ps first text

    none_shorter : match_bytes no_match < 1
    unfolding match_bytes
    none_shorter = omega arith

    -- The first byte.
    pub begins : (kept held : ℕ) → 0 < length text → kept ≡ keep ps 0 first (get_or text 0 0) → (kept ≡ 0 → ⊥) → held ≡ follows ps 0 kept
        → OnWay kept held 1
    begins kept held h k s f = record {
      some_kept = s;
      by_byte = (first, get_or text 0 0, k);
      following = f;
      bytes = let turn = bytes_turn first 0 kept h k s in rw f (omega arith);
      earlier = no_match;
      earlier_shorter = none_shorter;
      found = walk-turn ps text first 0 kept held no_match _ h k f refl ∙ walk-start ps text first;
    }

    -- One byte more.
    pub goes_on : {kept held n : ℕ} → OnWay kept held n → (next held' : ℕ) → n < length text → next ≡ keep ps 0 held (get_or text n 0)
        → (next ≡ 0 → ⊥) → held' ≡ follows ps 0 next → OnWay next held' (n + 1)
    goes_on {kept} {held} {n} w next held' h k s f = record {
      some_kept = s;
      by_byte = (held, get_or text n 0, k);
      following = f;
      bytes = let turn = bytes_turn held n next h k s in rw f (omega (arith, w.bytes));
      earlier = longer (ended_rule ps 0 kept) n w.earlier;
      earlier_shorter = let l = longer_bytes (ended_rule ps 0 kept) n w.earlier (omega (arith, w.earlier_shorter)) in omega arith;
      found = walk-turn ps text held n next held' _ _ h k f refl ∙ w.found;
    }

    -- ---- what it tells

    -- It does not begin.
    pub tells_nothing : Stops first 0 → ends_with no_match ≡ told ps first text
    unfolding told
    tells_nothing e = told-none ∙ ap₂ told_by (sym e.no_bytes) (e.no_more no_match ∙ walk-start ps text first)

    tells : {kept held n : ℕ} (w : OnWay kept held n) → Stops held n
        → told_by n (longer (ended_rule ps 0 kept) n w.earlier) ≡ told ps first text
    unfolding told
    tells {kept} {held} {n} w e =
        ap₂ told_by (let z : n ≡ walk_bytes ps first text = omega (arith, w.bytes, e.no_bytes) in z) (e.no_more _ ∙ w.found)

    pub tells_match : {kept held n : ℕ} → OnWay kept held n → Stops held n → (rule : ℕ) → some rule ≡ ended_rule ps 0 kept
        → ends_with (matched rule n) ≡ told ps first text
    unfolding longer
    tells_match {kept} {held} {n} w e rule o =
        told-whole rule n ∙ ap (λ (x : Option ℕ). told_by n (longer x n w.earlier)) o ∙ tells w e

    pub tells_vain : {kept held n : ℕ} → OnWay kept held n → Stops held n → none ≡ ended_rule ps 0 kept → in_vain n ≡ told ps first text
    unfolding longer
    tells_vain {kept} {held} {n} w e o =
        told_past n w.earlier w.earlier_shorter ∙ ap (λ (x : Option ℕ). told_by n (longer x n w.earlier)) o ∙ tells w e
