-- Worked readings: document 01's sheet D, and for each question of reading a sheet that it refuses, with each limit from both
-- sides. One table and one theorem on all its rows, by computing.
use Rattle.std.specs.Prelude.{◌≡◌, refl, Bool, true, ◌&&◌, List, [], ◌∷◌, ◌++◌, map, ℕ, zero, suc, T, replicate}
use Rattle.std.proofs.Common.{lit≤}
use Rattle.basics.specs.Lists.{All}
use Rattle.basics.proofs.laws.Truth.{and-first, and-second}
use Rattle.sheet.specs.SheetFormat.{SheetAnswer, Spells}
use Rattle.sheet.specs.Field.{Reading, stop, got}
use Rattle.sheet.specs.Reading.{Contents, read_sheet}
use Rattle.sheet.specs.SheetD.{sheet_D, head_of_D, bytes_of_D}
use Rattle.sheet.specs.laws.Computing.{computing_sheet}
use Rattle.sheet.proofs.laws.FieldLaws.{all_bytes, tested_bytes}
use Rattle.sheet.proofs.laws.ReadingLaws.{sheet_read_iff, read_accepted}

-- What a row says: the number of the refusal, 0 for a sheet that is read, and its place or the sheet's length.
abbrev pub answer : Reading Contents → ℕ × ℕ
answer (stop question place) = (question, place)
answer (got c end) = (0, end)

pub record Example : Type 0 where
  pub bytes : List ℕ
  pub question : ℕ
  pub place : ℕ

abbrev row : List ℕ → ℕ → ℕ → Example
row bytes question place = record { bytes = bytes; question = question; place = place }

-- One rule that skips, with a regex of n stars around an empty word, n classes in a row, or the bytes given; and one ε.
abbrev stars : ℕ → List ℕ
stars n = 1 ∷ 1 ∷ 1 ∷ 0 ∷ (replicate n 4 ++ 0 ∷ 0 ∷ [])

abbrev unions : ℕ → List ℕ
unions zero = 1 ∷ 7 ∷ 9 ∷ []
unions (suc n) = 3 ∷ 1 ∷ 7 ∷ 9 ∷ unions n

abbrev classes : ℕ → List ℕ
classes n = 1 ∷ 1 ∷ 1 ∷ 0 ∷ (unions n ++ 0 ∷ [])

-- n alternatives of a class and what comes next, and then a class's tag alone.
abbrev class_parts : ℕ → List ℕ
class_parts zero = 1 ∷ []
class_parts (suc n) = 3 ∷ 1 ∷ 7 ∷ 9 ∷ class_parts n

-- So many rules, each of which skips the empty word.
abbrev empty_rules : ℕ → List ℕ
empty_rules zero = []
empty_rules (suc n) = 0 ∷ 0 ∷ empty_rules n

-- So many tokens or rules.
abbrev tokens_and_rules : ℕ → ℕ → List ℕ
tokens_and_rules tokens rules = 1 ∷ tokens ∷ rules ∷ (empty_rules rules ++ 0 ∷ [])

-- n fixed points around ε.
abbrev fixed_points : ℕ → List ℕ
fixed_points n = head_of_D ++ (replicate n 5 ++ 0 ∷ [])

abbrev pub examples : List Example
examples =
    row bytes_of_D 0 34
    -- no number; a number cut off
    ∷ row [] 3 0
    ∷ row (1 ∷ 2 ∷ 3 ∷ []) 3 3
    ∷ row (1 ∷ 130 ∷ []) 3 1
    -- zero in two bytes, hexadecimal 80 00, and in ten; ten groups with a tenth byte of 1, which is 2^63, and of 2, which is 2^64
    ∷ row (head_of_D ++ 2 ∷ 128 ∷ 0 ∷ []) 0 23
    ∷ row (head_of_D ++ 2 ∷ (replicate 9 128 ++ 0 ∷ [])) 0 31
    ∷ row (head_of_D ++ 2 ∷ (replicate 9 128 ++ 1 ∷ [])) 4 21
    ∷ row (head_of_D ++ 2 ∷ (replicate 9 128 ++ 2 ∷ [])) 3 21
    -- eleven groups, the high ones all empty; ten that do not end
    ∷ row (head_of_D ++ 2 ∷ (replicate 10 128 ++ 0 ∷ [])) 3 21
    ∷ row (head_of_D ++ 2 ∷ replicate 10 128) 3 21
    -- places count bytes: padded numbers before a tag that is none, and a byte left over after them
    ∷ row (head_of_D ++ 131 ∷ 0 ∷ 2 ∷ 128 ∷ 0 ∷ 8 ∷ []) 4 25
    ∷ row (head_of_D ++ 130 ∷ 128 ∷ 0 ∷ 128 ∷ 0 ∷ 8 ∷ []) 6 25
    -- version, token count and rule count
    ∷ row (2 ∷ []) 4 0
    ∷ row (tokens_and_rules 0 1) 4 1
    ∷ row (tokens_and_rules 1 0) 4 2
    ∷ row (tokens_and_rules 24 32) 0 68
    ∷ row (tokens_and_rules 25 1) 4 1
    ∷ row (tokens_and_rules 1 33) 4 2
    -- an action of a token that is none, a regex tag that is none, a high byte below the low one and a byte above 255
    ∷ row (1 ∷ 2 ∷ 1 ∷ 2 ∷ 0 ∷ 0 ∷ []) 0 6
    ∷ row (1 ∷ 2 ∷ 1 ∷ 3 ∷ 0 ∷ 0 ∷ []) 4 3
    ∷ row (1 ∷ 2 ∷ 1 ∷ 2 ∷ 5 ∷ []) 4 4
    ∷ row (1 ∷ 2 ∷ 1 ∷ 2 ∷ 1 ∷ 57 ∷ 57 ∷ 0 ∷ []) 0 8
    ∷ row (1 ∷ 2 ∷ 1 ∷ 2 ∷ 1 ∷ 57 ∷ 56 ∷ 0 ∷ []) 4 6
    ∷ row (1 ∷ 2 ∷ 1 ∷ 2 ∷ 1 ∷ 57 ∷ 255 ∷ 1 ∷ 0 ∷ []) 0 9
    ∷ row (1 ∷ 2 ∷ 1 ∷ 2 ∷ 1 ∷ 57 ∷ 128 ∷ 2 ∷ 0 ∷ []) 4 6
    -- an expression tag that is none, a token that is none, variables with no fixed point and with one too few
    ∷ row (head_of_D ++ 8 ∷ []) 4 20
    ∷ row (head_of_D ++ 2 ∷ 1 ∷ []) 0 22
    ∷ row (head_of_D ++ 2 ∷ 2 ∷ []) 4 21
    ∷ row (head_of_D ++ 6 ∷ 0 ∷ []) 4 21
    ∷ row (head_of_D ++ 5 ∷ 6 ∷ 0 ∷ []) 0 23
    ∷ row (head_of_D ++ 5 ∷ 6 ∷ 1 ∷ []) 4 22
    ∷ row (head_of_D ++ 3 ∷ 5 ∷ 0 ∷ 6 ∷ 0 ∷ []) 4 24
    -- repetition has one part, and is no fixed point in a variable's count
    ∷ row (head_of_D ++ 7 ∷ []) 3 21
    ∷ row (head_of_D ++ 7 ∷ 2 ∷ 0 ∷ []) 0 23
    ∷ row (head_of_D ++ 7 ∷ 2 ∷ 0 ∷ 0 ∷ []) 6 23
    ∷ row (head_of_D ++ 7 ∷ 6 ∷ 0 ∷ []) 4 22
    ∷ row (head_of_D ++ 5 ∷ 7 ∷ 6 ∷ 0 ∷ []) 0 24
    ∷ row (head_of_D ++ 5 ∷ 7 ∷ 6 ∷ 1 ∷ []) 4 23
    -- 256 and 257 regex nodes, 64 and 65 classes, 64 and 65 expression nodes
    ∷ row (stars 255) 0 261
    ∷ row (stars 256) 5 260
    ∷ row (classes 63) 0 260
    ∷ row (classes 64) 5 260
    ∷ row (fixed_points 63) 0 84
    ∷ row (fixed_points 64) 5 84
    -- 3 and 4 come before 5
    ∷ row (1 ∷ 1 ∷ 1 ∷ 0 ∷ replicate 256 4) 3 260
    ∷ row (head_of_D ++ replicate 64 5) 3 84
    ∷ row (head_of_D ++ (replicate 64 5 ++ 8 ∷ [])) 4 84
    -- 5 stands at the tag, before the numbers after it
    ∷ row (1 ∷ 1 ∷ 1 ∷ 0 ∷ class_parts 64) 5 260
    ∷ row (head_of_D ++ (replicate 64 5 ++ 2 ∷ [])) 5 84
    -- a byte left over
    ∷ row (bytes_of_D ++ 0 ∷ []) 6 34
    ∷ []

-- Each row is what reading answers.
pub examples-read : map (λ e. answer (read_sheet e.bytes)) examples ≡ map (λ e. (e.question, e.place)) examples
unfolding computing_sheet
examples-read = refl

-- What a row says of its bytes.
abbrev pub Answers : Example → Type 0
Answers e = (x : Reading Contents) × SheetAnswer e.bytes x × (answer x ≡ (e.question, e.place))

abbrev all_rows : List Example → Bool
all_rows [] = true
all_rows (e ∷ es) = all_bytes e.bytes && all_rows es

read-answer : (es : List Example) → T (all_rows es)
    → map (λ e. answer (read_sheet e.bytes)) es ≡ map (λ e. (e.question, e.place)) es → All Answers es
read-answer [] t h = tt
read-answer (e ∷ es) t h =
    let first : answer (read_sheet e.bytes) ≡ (e.question, e.place) = cc in
    let rest : map (λ e. answer (read_sheet e.bytes)) es ≡ map (λ e. (e.question, e.place)) es = cc in
    let bytes = tested_bytes e.bytes (and-first (all_bytes e.bytes) (all_rows es) t) in (
      (read_sheet e.bytes, (sheet_read_iff e.bytes bytes _).0 refl, first),
      read-answer es (and-second (all_bytes e.bytes) (all_rows es) t) rest,
    )

-- Each row is the answer that its bytes have.
pub examples-answer : All Answers examples
examples-answer = read-answer examples tt examples-read

-- D is read as the sheet D, with these places.
pub d_read : read_sheet bytes_of_D ≡ got (record {
  sheet = sheet_D;
  action_places = 3 ∷ 12 ∷ 16 ∷ [];
  node_places = 20 ∷ 21 ∷ 23 ∷ 24 ∷ 25 ∷ 26 ∷ 27 ∷ 29 ∷ 30 ∷ 32 ∷ [];
}) 34
unfolding computing_sheet
d_read = refl

-- So D's bytes spell D.
pub d_spelled : Spells bytes_of_D sheet_D
d_spelled = (_, read_accepted bytes_of_D (tested_bytes bytes_of_D tt) (lit≤ tt) d_read, refl)
