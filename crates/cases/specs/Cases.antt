-- The cases that document 01 marks with ★, as rows of one table. A row gives what the page gives, with the token counts and the
-- images that it leaves to be worked out; a text is written as its bytes. That every row holds is shown elsewhere.
use Rattle.std.specs.Prelude.{◌≡◌, List, [], ◌∷◌, ◌++◌, ◌↔◌, ℕ, length, replicate}
use Rattle.basics.specs.Lists.{written_over}
use Rattle.sheet.specs.Sheet.{Sheet}
use Rattle.sheet.specs.SheetFormat.{Spells}
use Rattle.sheet.specs.SheetD.{with_expression, bytes_of_D}
use Rattle.types.specs.Denotation.{Denotes}
use Rattle.image.specs.Image.{Image}
use Rattle.image.specs.ImageFormat.{ReadableAs}
use Rattle.image.specs.Check.{work_bytes, check, check_answer}
use Rattle.image.specs.Write.{Written, refused, written, write, written_part}
use Rattle.image.specs.Answer.{Answer, answer}
use Rattle.machine.specs.Lent.{long_enough, Lent, stack_alone, with_scanner, rows_of, winners_of}
use Rattle.machine.specs.Run.{run}
use Rattle.machine.specs.OwnAnswer.{OwnAnswer, OwnAnswerByNumber}
use Rattle.machine.specs.Lexes.{ReadingChanges}
use Rattle.machine.specs.Runs.{Runs}
use Rattle.recogniser.specs.Recognises.{Recognises}
use Rattle.demands.specs.ImageD.{rules_of_image_D, image_D}

pub data Case : Type 0 where
  -- a sheet, and how writing its image ends
  writes : List ℕ → Written → Case
  -- the same, with a work area and an image buffer of so many bytes
  writes_with : ℕ → ℕ → List ℕ → Written → Case
  -- a sheet, a work area of so many bytes, and what checking answers
  checks : List ℕ → ℕ → Answer → Case
  -- a sheet, a text, and the answer of the sheet's image
  reads : List ℕ → List ℕ → Answer → Case
  -- a sheet, a text, and the sheet's own answer with the lowest rule picked, where the reading changes by kind
  changes : List ℕ → List ℕ → Answer → Case
  -- an image, a text, and the answer of a run over it
  runs : List ℕ → List ℕ → Answer → Case
  -- an image, how many rows its table has, and their winners
  tables : List ℕ → ℕ → List ℕ → Case
  -- an image, a text, the lengths of a table, of winners and of a stack, and the answer of a run with a table
  runs_table : List ℕ → List ℕ → ℕ → ℕ → ℕ → Answer → Case
  -- a sheet, a text, a list, what the recogniser answers, and the list as it leaves it
  recognises : List ℕ → List ℕ → List ℕ → Answer → List ℕ → Case
  -- a sheet, and the one token sequence that its expression denotes
  denotes_only : List ℕ → List ℕ → Case
  -- a sheet whose expression denotes no token sequence
  denotes_nothing : List ℕ → Case

-- Writing with the work area that document 01 names, and room for any image.
unfoldable pub written_sheet : List ℕ → Written
written_sheet sheet = write sheet work_bytes 65536

-- A long enough stack for a text, and buffers of given lengths.
abbrev pub stack_for : List ℕ → Lent
stack_for text = stack_alone (replicate (long_enough text) 0)

abbrev pub buffers : ℕ → ℕ → ℕ → Lent
buffers table winners entries = with_scanner (replicate entries 0) (replicate table 0) (replicate winners 0)

-- Running a sheet's image with a long enough stack.
unfoldable pub run_of_sheet : List ℕ → List ℕ → Answer
run_of_sheet sheet text = (run (written_part (written_sheet sheet)) text (stack_for text)).answer

-- What a run answers, and that it is what the page's questions fix.
abbrev pub Answers : List ℕ → List ℕ → Lent → Answer → Type 0
Answers image text lent a = ((run image text lent).answer ≡ a) × Runs image text lent (run image text lent)

-- A reading holds as what the machine answers and as the own answer of the sheet that the bytes spell; a run as what is answered and as
-- what the page's questions fix.
abbrev pub Holds : Case → Type 0
Holds (writes sheet c) = written_sheet sheet ≡ c
Holds (writes_with work room sheet c) = write sheet work room ≡ c
Holds (checks sheet work a) = check_answer (check sheet work) ≡ a
Holds (reads sheet text a) = (run_of_sheet sheet text ≡ a) × (s : Sheet) × Spells sheet s × OwnAnswer s text a
Holds (changes sheet text a) = (s : Sheet) × Spells sheet s × OwnAnswerByNumber s text a × ReadingChanges s text
Holds (runs image text a) = Answers image text (stack_for text) a
Holds (tables image rows winners) = (i : Image) × ReadableAs image i × (length (rows_of i) ≡ rows) × (winners_of i ≡ winners)
Holds (runs_table image text table winners entries a) = Answers image text (buffers table winners entries) a
Holds (recognises sheet text list a after) =
    (tokens : List ℕ) × Recognises sheet text work_bytes (length list) a tokens × (written_over tokens list ≡ after)
Holds (denotes_only sheet only) = (s : Sheet) × Spells sheet s × ((tokens : List ℕ) → Denotes s.expression tokens ↔ (tokens ≡ only))
Holds (denotes_nothing sheet) = (s : Sheet) × Spells sheet s × ((tokens : List ℕ) → Denotes s.expression tokens → ⊥)

-- μα.N·α, with D's rules
abbrev pub endless : List ℕ
endless = with_expression (5 ∷ 3 ∷ 2 ∷ 0 ∷ 6 ∷ 0 ∷ [])

unfoldable pub cases : List Case
cases =
    -- sheet D: its image, and `12 /7`, the empty text, `12/`, `12//7`, `12h`
    writes bytes_of_D (written image_D)
    ∷ reads bytes_of_D (49 ∷ 50 ∷ 32 ∷ 47 ∷ 55 ∷ []) (answer 0 5 3)
    ∷ reads bytes_of_D [] (answer 16 0 0)
    ∷ reads bytes_of_D (49 ∷ 50 ∷ 47 ∷ []) (answer 16 3 2)
    ∷ reads bytes_of_D (49 ∷ 50 ∷ 47 ∷ 47 ∷ 55 ∷ []) (answer 15 3 2)
    ∷ reads bytes_of_D (49 ∷ 50 ∷ 104 ∷ []) (answer 14 2 1)
    -- N ∨ N
    ∷ writes (with_expression (4 ∷ 2 ∷ 0 ∷ 2 ∷ 0 ∷ [])) (refused 10 20)
    -- (ε ∨ N)·S
    ∷ writes (with_expression (3 ∷ 4 ∷ 0 ∷ 2 ∷ 0 ∷ 2 ∷ 1 ∷ [])) (refused 9 20)
    -- μα.α
    ∷ writes (with_expression (5 ∷ 6 ∷ 0 ∷ [])) (refused 8 21)
    -- μα.(α ∨ (N ∨ N))
    ∷ writes (with_expression (5 ∷ 4 ∷ 6 ∷ 0 ∷ 4 ∷ 2 ∷ 0 ∷ 2 ∷ 0 ∷ [])) (refused 10 21)
    -- μα.N·α: one bare nonterminal, and it denotes nothing
    ∷ writes endless (written (rules_of_image_D ++ (1 ∷ 0 ∷ 0 ∷ [])))
    ∷ denotes_nothing endless
    -- (S·μβ.(ε ∨ N·β))·N, and with S last
    ∷ writes (with_expression (3 ∷ 3 ∷ 2 ∷ 1 ∷ 5 ∷ 4 ∷ 0 ∷ 3 ∷ 2 ∷ 0 ∷ 6 ∷ 0 ∷ 2 ∷ 0 ∷ [])) (refused 9 20)
    ∷ writes (with_expression (3 ∷ 3 ∷ 2 ∷ 1 ∷ 5 ∷ 4 ∷ 0 ∷ 3 ∷ 2 ∷ 0 ∷ 6 ∷ 0 ∷ 2 ∷ 1 ∷ []))
    (written (rules_of_image_D ++ (4 ∷ 0 ∷ 1 ∷ 0 ∷ 2 ∷ 1 ∷ 2 ∷ 1 ∷ 1 ∷ 2 ∷ 1 ∷ 3 ∷ 0 ∷ 1 ∷ 0 ∷ 0 ∷ 1 ∷ 1 ∷ 2 ∷ 1 ∷ 3 ∷ [])))
    ∷ []
