-- `leading_sets::word_of` meets its contract.
use mathlib.Core.Path.{◌≡◌, sym, ap, ap₂, ◌∙◌}
use mathlib.Core.List.{List}
use Prim.Native.Nat.{ℕ, ◌+◌, ◌-◌, ◌*◌, ◌/◌, ◌%◌, ◌^◌, ◌<◌}
use native.Mathlib.Omega.{arith}
use lib.Bits.{bit_or}
use lib.Count.{count_trailing_zeros}
use lib.ListN.{get_or}
use lib.Pow.{pow_pos}
use Rattle.basics.proofs.laws.BitLaws.{shl_one}
use Rattle.leading_sets.specs.Leading.{leading_and_following, set_of_word, UnionsBelow, Singles}
use Rattle.leading_sets.proofs.laws.LeadingLaws.{both_join, LowestOfByte, lowest_of_byte}
use Rattle.leading_sets.proofs.word_of.Goals as goal

-- A word of no position.
word_none : (follow : List ℕ) (k : ℕ) → k % 256 ≡ 0 → ◌≡◌ {A = ℕ} 0 (leading_and_following follow (set_of_word k))
word_none follow k e =
    let z : set_of_word k ≡ 0 = ap (λ (x : ℕ). x * 256 ^ (k / 256)) e ∙ omega arith in
    sym (ap (leading_and_following follow) z ∙ (both_join follow).none)

-- A word with a lowest position t.
word_some : (follow unions singles : List ℕ) (k t : ℕ) → k < 4096 → LowestOfByte k t → Singles follow singles → UnionsBelow k follow unions
    → bit_or (get_or unions (k - (1 * 2 ^ t) % 2 ^ 64) 0) (get_or singles (8 * (k / 256) + t) 0) ≡ leading_and_following follow (set_of_word k)
word_some follow unions singles k t h w s u =
    ap (λ (x : ℕ). bit_or (get_or unions (k - x) 0) (get_or singles (8 * (k / 256) + t) 0)) (shl_one t (omega (arith, w.small)))
    ∙ ap₂ bit_or (u (k - 2 ^ t) (omega (arith, w.within, pow_pos t))) (s (8 * (k / 256) + t) (omega (arith, w.small)))
    ∙ sym ((both_join follow).union (set_of_word (k - 2 ^ t)) (2 ^ (8 * (k / 256) + t)))
    ∙ ap (leading_and_following follow) (sym w.word_joined)

pub returns-then-byte-eq0 : goal.returns-then-byte-eq0
returns-then-byte-eq0 c = λ follow s u. word_none follow c.args.k c.if-byte-eq0.true

pub returns : goal.returns
returns c =
    let a = c.args in
    λ follow s u. word_some follow a.unions.now a.singles.now a.k _ c.requires
    (lowest_of_byte a.k c.if-byte-eq0.false) s u

pub overflow_sub-result : goal.overflow_sub-result
overflow_sub-result c =
    let w = lowest_of_byte c.args.k c.if-byte-eq0.false in
    rw (shl_one (count_trailing_zeros 64 (c.args.k % 256)) (omega (arith, w.small))) (omega (arith, w.within))

pub bounds-singles-k : goal.bounds-singles-k
bounds-singles-k c = omega (arith, (lowest_of_byte c.args.k c.if-byte-eq0.false).small)
