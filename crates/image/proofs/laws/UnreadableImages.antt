-- Worked places of 13, "at the first offending number or leftover byte": one table, one theorem, by computing.
use Rattle.std.specs.Prelude.{◌≡◌, refl, List, [], ◌∷◌, ◌++◌, ℕ, T}
use Rattle.basics.specs.Lists.{All}
use Rattle.basics.proofs.laws.Members.{◌&◌}
use Rattle.sheet.specs.Field.{stop}
use Rattle.sheet.proofs.laws.FieldLaws.{all_bytes, tested_bytes}
use Rattle.image.specs.ImageFormat.{FirstOffence}
use Rattle.image.proofs.laws.ReadableImages.{stop_offends}
use Rattle.image.specs.ImageReading.{read_image}
use Rattle.image.specs.laws.Computing.{computing_image}

pub record Offence : Type 0 where
  pub bytes : List ℕ
  pub place : ℕ

-- The bytes first offend at the place.
abbrev pub OffendsAt : Offence → Type 0
OffendsAt x = FirstOffence x.bytes x.place

abbrev offence : List ℕ → ℕ → Offence
offence bytes place = record { bytes = bytes; place = place }

-- One rule, which returns; one position, `a`; one nonterminal, which takes the rule: the first numbers, up to the first set.
abbrev start : List ℕ
start = 1 ∷ 1 ∷ 0 ∷ 1 ∷ 97 ∷ 97 ∷ 0 ∷ 1 ∷ 0 ∷ 1 ∷ []

pub offences : List Offence
offences =
    -- the version
    offence (2 ∷ 1 ∷ []) 0
    -- R out of range
    ∷ offence (1 ∷ 33 ∷ 0 ∷ []) 1
    -- a flag of 2
    ∷ offence (1 ∷ 1 ∷ 2 ∷ 1 ∷ []) 2
    -- a high byte below its low byte
    ∷ offence (1 ∷ 1 ∷ 0 ∷ 1 ∷ 97 ∷ 96 ∷ 0 ∷ []) 5
    -- a rule that falls
    ∷ offence (1 ∷ 2 ∷ 0 ∷ 0 ∷ 2 ∷ 97 ∷ 97 ∷ 1 ∷ 1 ∷ 0 ∷ 98 ∷ 98 ∷ 0 ∷ 1 ∷ []) 12
    -- a set not below 2^P
    ∷ offence (1 ∷ 1 ∷ 0 ∷ 1 ∷ 97 ∷ 97 ∷ 0 ∷ 1 ∷ 2 ∷ 1 ∷ []) 8
    -- a production's rule that skips
    ∷ offence (1 ∷ 1 ∷ 1 ∷ 1 ∷ 97 ∷ 97 ∷ 0 ∷ 1 ∷ 0 ∷ 1 ∷ 1 ∷ 0 ∷ 1 ∷ 0 ∷ 0 ∷ []) 13
    -- one that does not rise
    ∷ offence (start ++ (1 ∷ 0 ∷ 2 ∷ 0 ∷ 0 ∷ 0 ∷ 0 ∷ [])) 15
    -- a tail length of 33; one of 32 is allowed, and its first member is missing
    ∷ offence (start ++ (1 ∷ 0 ∷ 1 ∷ 0 ∷ 33 ∷ [])) 14
    ∷ offence (start ++ (1 ∷ 0 ∷ 1 ∷ 0 ∷ 32 ∷ [])) 15
    -- a tail member not below the nonterminal count
    ∷ offence (start ++ (1 ∷ 0 ∷ 1 ∷ 0 ∷ 1 ∷ 1 ∷ [])) 15
    -- zero written as 80 00
    ∷ offence (1 ∷ 1 ∷ 128 ∷ 0 ∷ 1 ∷ []) 2
    -- a byte left over
    ∷ offence (start ++ (1 ∷ 0 ∷ 1 ∷ 0 ∷ 0 ∷ 7 ∷ [])) 15
    -- a number that is cut off
    ∷ offence (1 ∷ 1 ∷ 0 ∷ 1 ∷ 97 ∷ 97 ∷ 0 ∷ 1 ∷ 128 ∷ []) 8
    -- one that is missing
    ∷ offence start 10
    ∷ []

-- What is computed of a row: its list is of bytes, and the reader stops there.
abbrev Computed : Offence → Type 0
Computed x = T (all_bytes x.bytes) × (read_image x.bytes ≡ stop 13 x.place)

all_offend : (xs : List Offence) → All Computed xs → All OffendsAt xs
all_offend [] h = tt
all_offend (x ∷ xs) h = (stop_offends x.bytes (tested_bytes x.bytes h.0.0) 13 x.place h.0.1, all_offend xs h.1)

-- Every row holds.
pub offences_found : All OffendsAt offences
unfolding offences computing_image
offences_found =
    all_offend offences
    ((tt, refl) & (tt, refl) & (tt, refl) & (tt, refl) & (tt, refl) & (tt, refl) & (tt, refl) &
    (tt, refl) & (tt, refl) & (tt, refl) & (tt, refl) & (tt, refl) & (tt, refl) & (tt, refl) & (tt, refl) & tt)
