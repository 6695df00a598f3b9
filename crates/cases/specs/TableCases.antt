-- The worked cases of request [6]: tables, and runs with a table. Texts over the limit and tables of about 256 rows are too long to be
-- worked out here; the vectors' program and the Rust tests check them. That every row holds is shown elsewhere.
use Rattle.std.specs.Prelude.{List, [], ◌∷◌, ℕ}
use Rattle.image.specs.Answer.{answer}
use Rattle.demands.specs.ImageD.{image_D}
use Rattle.cases.specs.Cases.{Case, tables, runs_table}

-- One rule, of any bytes in a row: every byte of every text is kept.
abbrev pub image_any : List ℕ
image_any = 1 ∷ 1 ∷ 0 ∷ 1 ∷ 0 ∷ 255 ∷ 1 ∷ 0 ∷ 1 ∷ 1 ∷ 1 ∷ 1 ∷ 1 ∷ 0 ∷ []

-- No position is in the first set: no byte is kept.
abbrev pub image_never : List ℕ
image_never = 1 ∷ 1 ∷ 0 ∷ 1 ∷ 97 ∷ 97 ∷ 0 ∷ 1 ∷ 0 ∷ 0 ∷ 1 ∷ 1 ∷ 0 ∷ []

-- Two rules that both match `a`, of which the first goes on with `a`.
abbrev pub image_two : List ℕ
image_two = 1 ∷ 2 ∷ 1 ∷ 1 ∷ 2 ∷ 97 ∷ 97 ∷ 0 ∷ 1 ∷ 1 ∷ 97 ∷ 97 ∷ 1 ∷ 1 ∷ 0 ∷ 3 ∷ 1 ∷ 1 ∷ 0 ∷ []

-- `a`, and a position that leads to itself and that nothing else leads to.
abbrev pub image_apart : List ℕ
image_apart = 1 ∷ 1 ∷ 0 ∷ 2 ∷ 97 ∷ 97 ∷ 0 ∷ 1 ∷ 0 ∷ 98 ∷ 98 ∷ 0 ∷ 1 ∷ 2 ∷ 1 ∷ 1 ∷ 1 ∷ 0 ∷ []

unfoldable pub table_cases : List Case
table_cases =
    -- sheet D: six rows
    tables image_D 6 (32 ∷ 32 ∷ 1 ∷ 0 ∷ 2 ∷ 2 ∷ [])
    -- the empty set is row 1 also where no byte leads to it, and where all do
    ∷ tables image_any 3 (32 ∷ 32 ∷ 0 ∷ [])
    ∷ tables image_never 2 (32 ∷ 32 ∷ [])
    -- a set that nothing reaches is no row
    ∷ tables image_apart 3 (32 ∷ 32 ∷ 0 ∷ [])
    -- the lowest of two rules wins
    ∷ tables image_two 4 (32 ∷ 32 ∷ 0 ∷ 0 ∷ [])
    -- D's readings are those without a table: `12 /7`, the empty text, `12/`, `12//7`, `12h`; a stack of no entry
    ∷ runs_table image_D (49 ∷ 50 ∷ 32 ∷ 47 ∷ 55 ∷ []) 65536 256 156 (answer 0 5 3)
    ∷ runs_table image_D [] 65536 256 1 (answer 16 0 0)
    ∷ runs_table image_D (49 ∷ 50 ∷ 47 ∷ []) 65536 256 94 (answer 16 3 2)
    ∷ runs_table image_D (49 ∷ 50 ∷ 47 ∷ 47 ∷ 55 ∷ []) 65536 256 156 (answer 15 3 2)
    ∷ runs_table image_D (49 ∷ 50 ∷ 104 ∷ []) 65536 256 94 (answer 14 2 1)
    ∷ runs_table image_D (49 ∷ []) 65536 256 0 (answer 17 0 0)
    -- longer buffers are fine, shorter ones are not, whatever else is wrong
    ∷ runs_table image_D (49 ∷ []) 65537 1000 32 (answer 0 1 1)
    ∷ runs_table image_D (49 ∷ []) 65535 256 32 (answer 18 0 0)
    ∷ runs_table image_D (49 ∷ []) 65536 255 32 (answer 18 0 0)
    ∷ runs_table [] (49 ∷ []) 0 0 0 (answer 18 0 0)
    -- an image that is not readable
    ∷ runs_table [] (49 ∷ []) 65536 256 0 (answer 13 0 0)
    ∷ runs_table (2 ∷ []) [] 65536 256 1 (answer 13 0 0)
    ∷ []
