-- The words of a match and of none. What words in a row stand for is said in Ahead.
use Rattle.std.specs.Prelude.{◌≡◌, refl, ℕ, ◌+◌, ◌*◌, ◌/◌, ◌%◌, ◌≤◌, ◌<◌}
use Rattle.std.proofs.Common.{arith, ne_eqb}
use Rattle.lexer.specs.Match.{no_match, matched}
use Rattle.alive_scanner.specs.Ahead.{word_match}

pub word_none : word_match 0 ≡ no_match
unfolding word_match
word_none = refl

pub word_some : (rule n : ℕ) → rule < 256 → 1 ≤ n → word_match (n * 256 + rule) ≡ matched rule n
unfolding word_match
word_some rule n small some_bytes =
    let m : (n * 256 + rule) % 256 ≡ rule = omega arith in
    let d : (n * 256 + rule) / 256 ≡ n = omega arith in
    rw (ne_eqb (n * 256 + rule) 0 (λ e. omega arith), m, d)
