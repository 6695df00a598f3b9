-- What a walk over so many bytes tells, by the match that it finds: one that has all of them, or fewer. Which walk goes over them is not
-- asked.
use Rattle.std.specs.Prelude.{◌≡◌, refl, ℕ, ◌≤◌, ◌<◌}
use Rattle.std.proofs.Math.Option.{Option, none, some}
use Rattle.std.proofs.Common.{arith, eq-eqb, ne_eqb}
use Rattle.lexer.specs.Match.{Match, no_match, matched, longer}
use Rattle.lexer.specs.Alive.{match_bytes, vain, ends_with, in_vain, told_by}

pub told-none : ends_with no_match ≡ told_by 0 no_match
unfolding told_by vain match_bytes
told-none = refl

pub told-whole : (rule n : ℕ) → ends_with (matched rule n) ≡ told_by n (matched rule n)
unfolding told_by vain match_bytes
told-whole rule n = rw (eq-eqb n n refl)

pub told_past : (n : ℕ) (m : Match) → match_bytes m < n → in_vain n ≡ told_by n m
unfolding told_by vain
told_past n m h = rw (ne_eqb n (match_bytes m) (λ e. absurd (omega arith)), ne_eqb n 0 (λ e. absurd (omega arith)))

-- A match that ends after so many bytes, or an earlier one, has at most so many.
pub longer_bytes : (o : Option ℕ) (n : ℕ) (m : Match) → match_bytes m ≤ n → match_bytes (longer o n m) ≤ n
unfolding longer match_bytes
longer_bytes none n m h = h
longer_bytes (some rule) n m h = omega arith
