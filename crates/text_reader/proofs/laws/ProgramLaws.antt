-- What the program loads of its two files is enough: one byte more than each limit tells that a file is too long, and what lies past it
-- does not change the line.
use Rattle.std.specs.Prelude.{◌≡◌, refl, List, ℕ, suc, ◌≤◌, ◌<◌, length, take, replicate}
use Rattle.std.proofs.Common.{sym, ap, ◌∙◌, ⊎_elim, arith, take_all, length-take-le, lt-ltb}
use Rattle.basics.proofs.laws.Order.{lt-or-le}
use Rattle.sheet.specs.Limits.{most_sheet_bytes}
use Rattle.image.specs.Check.{work_bytes, after_work, check}
use Rattle.image.specs.Write.{Written, refused, too_long, written, after_checking, write}
use Rattle.text_reader.specs.Reading.{answer_within, reading, line_of}
use Rattle.text_reader.specs.Program.{most_program_text, program_room, program_entries, program_line}

-- A list that is longer than a limit is so in its first bytes, one more than the limit.
module _ (limit : ℕ) (l : List ℕ) where
  cut_long : suc limit ≤ length l → limit < length (take (suc limit) l)
  cut_long h = omega (arith, length-take-le (suc limit) l h)

  cut_short : length l < suc limit → take (suc limit) l ≡ l
  cut_short h = take_all (suc limit) l (omega arith)

loaded_sheet : (sheet : List ℕ) (room : ℕ) → write (take (suc most_sheet_bytes) sheet) work_bytes room ≡ write sheet work_bytes room
unfolding write after_checking check after_work
loaded_sheet sheet room = ⊎_elim
    (λ h. ap (λ (l : List ℕ). write l work_bytes room) (cut_short most_sheet_bytes sheet h))
    (λ h. long (take (suc most_sheet_bytes) sheet) (cut_long most_sheet_bytes sheet h) ∙ sym (long sheet (omega arith)))
    (lt-or-le (length sheet) (suc most_sheet_bytes))
  where
    long : (l : List ℕ) → most_sheet_bytes < length l → write l work_bytes room ≡ refused 2 0
    long l h = rw (lt-ltb most_sheet_bytes (length l) h)

loaded_text : (c : Written) (text stack : List ℕ)
    → reading most_program_text c (take (suc most_program_text) text) stack ≡ reading most_program_text c text stack
unfolding reading answer_within
loaded_text (refused number place) text stack = refl
loaded_text (too_long needed) text stack = refl
loaded_text (written image) text stack = ⊎_elim
    (λ h. ap (λ (l : List ℕ). reading most_program_text (written image) l stack) (cut_short most_program_text text h))
    (λ h. rw (
      lt-ltb most_program_text (length (take (suc most_program_text) text)) (cut_long most_program_text text h),
      lt-ltb most_program_text (length text) (omega arith),
    ))
    (lt-or-le (length text) (suc most_program_text))

-- The line for what is loaded is the line for the whole files.
pub loaded_enough : (sheet text : List ℕ)
    → program_line (take (suc most_sheet_bytes) sheet) (take (suc most_program_text) text) ≡ program_line sheet text
unfolding program_line
loaded_enough sheet text = ap line_of
    (ap (λ (c : Written). reading most_program_text c (take (suc most_program_text) text) (replicate program_entries 0)) (loaded_sheet sheet program_room)
    ∙ loaded_text (write sheet work_bytes program_room) text (replicate program_entries 0))
