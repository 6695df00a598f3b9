-- The worked cases of padded numbers: sheet D and its twins, places that count bytes, the limits of a number and of a sheet, and an
-- image, where no number is padded. That every row holds is shown elsewhere.
use Rattle.std.specs.Prelude.{List, [], ◌∷◌, ◌++◌, ℕ, ◌+◌, take, drop, replicate}
use Rattle.sheet.specs.SheetD.{with_expression, bytes_of_D}
use Rattle.image.specs.Check.{work_bytes}
use Rattle.image.specs.Write.{refused, too_long, written}
use Rattle.image.specs.Answer.{answer}
use Rattle.demands.specs.ImageD.{image_D}
use Rattle.cases.specs.Cases.{Case, checks, writes, writes_with, reads, runs}
use Rattle.cases.specs.CheckCases.{not_apart, empty_word}

-- Numbers below 128, each written in ten bytes.
abbrev pub in_ten : List ℕ → List ℕ
in_ten [] = []
in_ten (n ∷ ns) = (128 + n) ∷ (replicate 8 128 ++ 0 ∷ in_ten ns)

-- Sheet D with other bytes for its last number, which is 0.
abbrev D_ending_with : List ℕ → List ℕ
D_ending_with bytes = take 33 bytes_of_D ++ bytes

-- Sheet D's image with other bytes for its third number, which is 0.
abbrev image_with_third : List ℕ → List ℕ
image_with_third bytes = take 2 image_D ++ (bytes ++ drop 3 image_D)

unfoldable pub padding_cases : List Case
padding_cases =
    -- "Hexadecimal 80 00 is then zero in a sheet, still 13 in an image"; the image is D's where its third number is written in one byte
    writes (D_ending_with (128 ∷ 0 ∷ [])) (written image_D)
    ∷ runs (image_with_third (128 ∷ 0 ∷ [])) [] (answer 13 2 0)
    ∷ runs (image_with_third (0 ∷ [])) [] (answer 16 0 0)
    -- every number in ten bytes: the same image, the same reading of `12 /7`, the same length needed
    ∷ writes (in_ten bytes_of_D) (written image_D)
    ∷ reads (in_ten bytes_of_D) (49 ∷ 50 ∷ 32 ∷ 47 ∷ 55 ∷ []) (answer 0 5 3)
    ∷ writes_with work_bytes 47 (in_ten bytes_of_D) (too_long 48)
    -- a refusal's place is that of the same number, in bytes
    ∷ writes (in_ten not_apart) (refused 10 200)
    ∷ writes (in_ten empty_word) (refused 7 30)
    ∷ writes (in_ten (with_expression (5 ∷ 6 ∷ 1 ∷ []))) (refused 4 220)
    ∷ writes (in_ten (with_expression (3 ∷ []))) (refused 3 210)
    ∷ writes (in_ten (bytes_of_D ++ 0 ∷ [])) (refused 6 340)
    -- ten groups with a tenth byte of 1 are 2^63, of 2 no number; eleven groups are none, the high ones all empty
    ∷ writes (D_ending_with (replicate 9 128 ++ 1 ∷ [])) (refused 4 33)
    ∷ writes (D_ending_with (replicate 9 128 ++ 2 ∷ [])) (refused 3 33)
    ∷ writes (D_ending_with (replicate 10 128 ++ 0 ∷ [])) (refused 3 33)
    -- the limit of 4,096 bytes: 409 numbers of ten bytes and one of six are within, with one of seven they are not; and 515 of ten bytes
    ∷ checks (in_ten (replicate 409 1) ++ (129 ∷ (replicate 4 128 ++ 0 ∷ []))) work_bytes (answer 6 80 0)
    ∷ checks (in_ten (replicate 409 1) ++ (129 ∷ (replicate 5 128 ++ 0 ∷ []))) work_bytes (answer 2 0 0)
    ∷ checks (in_ten (replicate 515 1)) work_bytes (answer 2 0 0)
    ∷ []
