-- The walk over a text, as the code goes: one byte a turn, the early end where a byte keeps nothing, and the match found so far as a set of
-- last positions.
use mathlib.Core.Path.{◌≡◌, refl, sym, ap, ◌∙◌}
use mathlib.Core.Bool.{Bool, true, false, cond}
use mathlib.Core.List.{List}
use mathlib.Core.Option.{Option, none, some}
use Prim.Native.Nat.{ℕ, ◌+◌, ◌^◌, ◌≤◌, ◌<◌}
use native.Mathlib.Numerals.{add-one}
use lib.Bits.{bit_and}
use lib.Dec.{eqb}
use lib.ListN.{length, drop, get_or, drop_of_length-le}
use lib.Seq.{drop-cons}
use borrow.Author.Tests.{eqb-true, eqb-false}
use Rattle.lexer.specs.Positions.{Position}
use Rattle.lexer.specs.Match.{Match, no_match, longer}
use Rattle.lexer.specs.Walk.{keep, follows, ended_rule, walk, longest_match}
use Rattle.lexer.specs.SetWalk.{members}
use Rattle.lexer.proofs.laws.SetWalkLaws.{members-zero, members-step}
use Rattle.lexer.proofs.laws.LowestPosition.{follows_nothing, ended_nothing, walk_nothing}
use Rattle.scanner.specs.declared.EndedBy.{EndedBy}
use Rattle.scanner.specs.Sets.{first_entry, match_by, latest_ended}

-- The empty set stands for no match.
pub match_by-none : (rule : List ℕ) (n : ℕ) → match_by rule 0 n ≡ no_match
unfolding match_by first_entry longer
match_by-none rule n = rw members-zero

-- A set of last positions replaces the match before it, an empty one leaves it.
pub match_new : (rule : List ℕ) (set n : ℕ) (m : Match) → (set ≡ 0 → ⊥) → set < 2 ^ 64
    → match_by rule set n ≡ longer (first_entry rule (members set)) n m
unfolding match_by first_entry longer
match_new rule set n m h l = rw (members-step set h l)

pub match_old : (rule : List ℕ) (set n : ℕ) (m : Match) → set ≡ 0 → m ≡ longer (first_entry rule (members set)) n m
unfolding first_entry longer
match_old rule set n m h = rw (h, members-zero)

-- The later of two matches.
pub match_latest : (rule : List ℕ) (set n : ℕ) (e : EndedBy) → set < 2 ^ 64
    → match_by rule (latest_ended set n e).ending (latest_ended set n e).length
    ≡ longer (first_entry rule (members set)) n (match_by rule e.ending e.length)
unfolding latest_ended
match_latest rule set n e l = go (eqb set 0) refl
  where
    go : (b : Bool) → eqb set 0 ≡ b
        → match_by rule (cond b e (record { ending = set; length = n })).ending (cond b e (record { ending = set; length = n })).length
        ≡ longer (first_entry rule (members set)) n (match_by rule e.ending e.length)
    go true f = match_old rule set n (match_by rule e.ending e.length) (eqb-true set 0 f)
    go false f = match_new rule set n (match_by rule e.ending e.length) (eqb-false set 0 f) l

-- The same rule again, some bytes later.
pub longer_again : (o : Option ℕ) (n k : ℕ) (m : Match) → longer o k m ≡ longer o k (longer o n m)
unfolding longer
longer_again none n k m = refl
longer_again (some rule) n k m = refl

-- The match so far, with n bytes behind it: by the last positions that the latest byte kept, or else an earlier one.
abbrev pub so_far : List ℕ → ℕ → ℕ → ℕ → EndedBy → Match
so_far rule last kept n earlier = longer (first_entry rule (members (bit_and kept last))) n (match_by rule earlier.ending earlier.length)

-- The walk over the rest of a text, with n bytes behind it.
module _ (ps : List Position) (text : List ℕ) where
  pub walk-start : (first : ℕ) → walk ps first (drop 0 text) 0 no_match ≡ longest_match ps first text
  unfolding longest_match
  walk-start first = refl

  pub walk-turn : (held n kept next : ℕ) (m m' : Match) → n < length text → kept ≡ keep ps 0 held (get_or text n 0)
      → next ≡ follows ps 0 kept → m' ≡ longer (ended_rule ps 0 kept) (n + 1) m
      → walk ps next (drop (n + 1) text) (n + 1) m' ≡ walk ps held (drop n text) n m
  unfolding walk
  walk-turn held n kept next m m' h k f g = rw (g, f, k, drop-cons text n 0, add-one n)

  -- A byte that keeps nothing.
  pub walk_stops : (held n : ℕ) (m : Match) → n < length text → keep ps 0 held (get_or text n 0) ≡ 0 → m ≡ walk ps held (drop n text) n m
  unfolding longer
  walk_stops held n m h k =
      sym (walk_nothing ps (drop (n + 1) text) (n + 1) m)
      ∙ walk-turn held n 0 0 m m h (sym k) (sym (follows_nothing ps 0)) (rw (ended_nothing ps 0))

  pub walk_end : (held n : ℕ) (m : Match) → length text ≤ n → m ≡ walk ps held (drop n text) n m
  unfolding walk
  walk_end held n m h = rw (drop_of_length-le text {i = n} h)

-- The first byte, with no match before it.
pub walk_begun : (ps : List Position) (rule text : List ℕ) (first kept next last : ℕ) → 0 < length text → kept ≡ keep ps 0 first (get_or text 0 0)
    → next ≡ follows ps 0 kept → first_entry rule (members (bit_and kept last)) ≡ ended_rule ps 0 kept
    → walk ps next (drop 1 text) 1 (so_far rule last kept 1 (record { ending = 0; length = 0 })) ≡ longest_match ps first text
walk_begun ps rule text first kept next last h k f e =
    walk-turn ps text first 0 kept next no_match _ h k f
    (ap (longer (first_entry rule (members (bit_and kept last))) 1) (match_by-none rule 0) ∙ ap (λ (o : Option ℕ). longer o 1 no_match) e)
    ∙ walk-start ps text first
