-- How much a type holds: a flag and the members of two sets of at most 24 tokens, so at most `type_height`. A type that grows weighs more.
-- This counts for what the rounds of the least types need, and is no part of a type's meaning.
use Rattle.std.specs.Prelude.{◌≡◌, ℕ, ◌+◌, ◌^◌, ◌≤◌, ◌<◌}
use Rattle.std.proofs.Common.{subst, ⊎_elim, arith}
use Rattle.std.specs.Int.Bits.{bit_or}
use Rattle.basics.specs.Bits.{◌∈◌}
use Rattle.basics.proofs.laws.BitLaws.{∈_zero, ∈_one, ∈_cases, bit-below, lt-pow_self}
use Rattle.sheet.specs.Limits.{most_tokens}
use Rattle.types.specs.Types.{LanguageType, epsilon_type, bottom_type, token_type, sequence_type, alternative_type, repetition_type, repetition_type_with}
use Rattle.types.specs.LeastTypes.{type_height}
use Rattle.types.proofs.laws.SetOrder.{flag, flag_rises, flag_most, flag_implies, count, count_most, count_rises, count_full}
use Rattle.types.proofs.laws.SequenceTypeLaws.{sequence_first-cases, sequence_flast_cases}
use Rattle.types.proofs.laws.TypeLaws.{⊑_antisym}
use Rattle.types.specs.LeastSolution.{◌⊑◌}

-- Every member of the set is a token that a sheet may have.
abbrev pub TokensOnly : ℕ → Type 0
TokensOnly s = (i : ℕ) → i ∈ s → i < most_tokens

pub record Fits (a : LanguageType) : Type 0 where
  pub first_fits : TokensOnly a.first
  pub flast_fits : TokensOnly a.flast

union_only : (s t : ℕ) → TokensOnly s → TokensOnly t → TokensOnly (bit_or s t)
union_only s t f g i h = ⊎_elim (f i) (g i) (∈_cases s t i h)

pub below_fits : {a b : LanguageType} → a ⊑ b → Fits b → Fits a
below_fits p f = record {
  first_fits = λ i h. f.first_fits i (p.first_rises i h);
  flast_fits = λ i h. f.flast_fits i (p.flast_rises i h);
}

pub epsilon_fits : Fits epsilon_type
unfolding epsilon_type
epsilon_fits = record { first_fits = λ i h. ∈_zero i h; flast_fits = λ i h. ∈_zero i h }

pub bottom_fits : Fits bottom_type
unfolding bottom_type
bottom_fits = record { first_fits = λ i h. ∈_zero i h; flast_fits = λ i h. ∈_zero i h }

pub token_fits : (t : ℕ) → t < most_tokens → Fits (token_type t)
unfolding token_type
token_fits t l = record { first_fits = λ i h. subst (λ n. n < most_tokens) (∈_one t i h) l; flast_fits = λ i h. ∈_zero i h }

pub sequence_fits : {a b : LanguageType} → Fits a → Fits b → Fits (sequence_type a b)
sequence_fits {a} {b} p q = record {
  first_fits = λ i m. ⊎_elim (p.first_fits i) (λ x. q.first_fits i x.1) (sequence_first-cases a b i m);
  flast_fits = λ i m. ⊎_elim (q.flast_fits i) (λ x. ⊎_elim (q.first_fits i) (p.flast_fits i) x.1) (sequence_flast_cases a b i m);
}

pub alternative_fits : {a b : LanguageType} → Fits a → Fits b → Fits (alternative_type a b)
unfolding alternative_type
alternative_fits {a} {b} p q = record {
  first_fits = union_only a.first b.first p.first_fits q.first_fits;
  flast_fits = union_only a.flast b.flast p.flast_fits q.flast_fits;
}

pub repetition_fits : {a b : LanguageType} → Fits a → Fits b → Fits (repetition_type a b)
unfolding repetition_type_with
repetition_fits p q = alternative_fits epsilon_fits (sequence_fits p q)

-- Both sets are then numbers of 24 bits.
only_small : (s : ℕ) → TokensOnly s → s < 2 ^ most_tokens
only_small s f = bit-below most_tokens s s (lt-pow_self s) f

pub first_small : {a : LanguageType} → Fits a → a.first < 2 ^ most_tokens
first_small {a} f = only_small a.first f.first_fits

pub flast_small : {a : LanguageType} → Fits a → a.flast < 2 ^ most_tokens
flast_small {a} f = only_small a.flast f.flast_fits

pub weight : LanguageType → ℕ
weight a = flag a.null + (count most_tokens a.first + count most_tokens a.flast)

pub weight_most : (a : LanguageType) → weight a ≤ type_height
unfolding weight
weight_most a = omega (arith, flag_most a.null, count_most most_tokens a.first, count_most most_tokens a.flast)

pub weight_rises : {a b : LanguageType} → a ⊑ b → weight a ≤ weight b
unfolding weight
weight_rises {a} {b} p =
    let n = flag_rises a.null b.null p.null_rises in
    let s = count_rises most_tokens a.first b.first p.first_rises in
    let t = count_rises most_tokens a.flast b.flast p.flast_rises in
    omega arith

-- A type that is below another and weighs no less is that other.
pub weight_full : {a b : LanguageType} → a ⊑ b → Fits b → weight b ≤ weight a → a ≡ b
unfolding weight
weight_full {a} {b} p f h =
    let n = flag_rises a.null b.null p.null_rises in
    let s = count_rises most_tokens a.first b.first p.first_rises in
    let t = count_rises most_tokens a.flast b.flast p.flast_rises in
    let n' : flag b.null ≤ flag a.null = omega arith in
    let s' : count most_tokens b.first ≤ count most_tokens a.first = omega arith in
    let t' : count most_tokens b.flast ≤ count most_tokens a.flast = omega arith in
    ⊑_antisym p (record {
      null_rises = flag_implies b.null a.null n';
      first_rises = λ i m. count_full most_tokens a.first b.first p.first_rises s' i (f.first_fits i m) m;
      flast_rises = λ i m. count_full most_tokens a.flast b.flast p.flast_rises t' i (f.flast_fits i m) m;
    })
