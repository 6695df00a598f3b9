-- The sheet as a format: its numbers from the left, with questions 4 and 5 of each, and what they make; and so the one answer that bytes
-- have to questions 3 to 6, and the sheet that bytes spell. How bytes are read is not said here.
use Rattle.std.specs.Prelude.{◌≡◌, Bool, true, false, not, ◌&&◌, ◌||◌, cond, List, [], ◌∷◌, ◌++◌, ℕ, zero, suc, ◌+◌, ◌≤◌, eqb, ltb, length, get_or}
use Rattle.std.proofs.Math.Option.{Option, none, some}
use Rattle.sheet.specs.Limits.{most_tokens, most_rules, most_classes, most_regex_nodes, most_expression_nodes, most_sheet_bytes}
use Rattle.sheet.specs.Regex.{Regex, empty, class, concat, union, star}
use Rattle.sheet.specs.Expression.{Expression, epsilon, bottom, token, sequence, alternative, fixed_point, variable, repetition}
use Rattle.sheet.specs.Sheet.{Rule, Sheet}
use Rattle.sheet.specs.Field.{Reading, got, between}
use Rattle.sheet.specs.Spelling.{NumberBytes}
use Rattle.sheet.specs.Format.{Format, done, number, field, FormatAnswer}

-- What a sheet's numbers make: the sheet, the place of each rule's action, and the place of each expression node's tag.
pub record Contents : Type 0 where
  pub sheet : Sheet
  pub action_places : List ℕ
  pub node_places : List ℕ

-- "Is its value allowed in its field? No: 4. Are the node and class limits kept with this tag? No: 5."
abbrev pub judge : Bool → Bool → Option ℕ
judge allowed kept = cond allowed (cond kept none (some 5)) (some 4)

-- "a regex in prefix order", where so many regex nodes and byte classes came before, "over all rules". After its tag: "0 empty word; 1 byte
-- class, followed by its low byte (0 to 255) and high byte (low to 255); 2 sequence; 3 alternative; 4 star". It is no deeper than it has
-- nodes: at depth 0 the limit leaves none.
unfoldable pub regex_format : {X : Type 0} → ℕ → ℕ → ℕ → (Regex → ℕ → ℕ → Format X) → Format X
regex_format zero nodes classes next = number (λ tag. judge (between 0 4 tag) false) (λ tag at. next empty nodes classes)
regex_format {X} (suc depth) nodes classes next =
    let leaf = next empty (nodes + 1) classes in
    let bytes = field 4 (between 0 255) (λ low. field 4 (between low 255) (λ high. next (class low high) (nodes + 1) (classes + 1))) in
    let part = regex_format depth (nodes + 1) classes in
    let two : (Regex → Regex → Regex) → Format X = λ make. part (λ r n c. regex_format depth n c (λ s. next (make r s))) in
    number (λ tag. judge (between 0 4 tag) (ltb nodes most_regex_nodes && (not (eqb tag 1) || ltb classes most_classes)))
    (λ tag at. get_or (leaf ∷ bytes ∷ two concat ∷ two union ∷ part (λ r. next (star r)) ∷ []) tag leaf)

-- "per rule: action (0 skips, k + 1 returns token k, k below T), then a regex"
unfoldable pub rules_format : {X : Type 0} → ℕ → ℕ → ℕ → ℕ → (List Rule → List ℕ → Format X) → Format X
rules_format tokens zero nodes classes next = next [] []
rules_format tokens (suc rules) nodes classes next =
    number (λ v. judge (between 0 tokens v) true) (λ action at. regex_format most_regex_nodes nodes classes
    (λ r n c. rules_format tokens rules n c (λ rs places. next (record { action = action; regex = r } ∷ rs) (at ∷ places))))

-- "one expression in prefix order", where so many fixed points are open, with the places of the tags before it. After its tag: "0 ε; 1 ⊥;
-- 2 token, followed by its number; 3 sequence; 4 alternative; 5 fixed point; 6 variable, followed by how many open fixed points lie between
-- it and its own"; "tag 7, repetition of one part", "no fixed point in a variable's count".
unfoldable pub expression_format : {X : Type 0} → ℕ → ℕ → ℕ → List ℕ → (Expression → List ℕ → Format X) → Format X
expression_format zero tokens opened before next = number (λ tag. judge (between 0 7 tag) false) (λ tag at. next bottom before)
expression_format {X} (suc depth) tokens opened before next =
    number (λ tag. judge (between 0 7 tag) (ltb (length before) most_expression_nodes)) (λ tag at.
    let places = before ++ (at ∷ []) in
    let below : ℕ → (ℕ → Expression) → Format X = λ bound make. field 4 (λ k. ltb k bound) (λ k. next (make k) places) in
    let one : ℕ → (Expression → Expression) → Format X = λ inside make. expression_format depth tokens inside places (λ g. next (make g)) in
    let two : (Expression → Expression → Expression) → Format X = λ make.
    expression_format depth tokens opened places (λ g p. expression_format depth tokens opened p (λ h. next (make g h))) in
    get_or (next epsilon places ∷ next bottom places ∷ below tokens token ∷ two sequence ∷ two alternative ∷ one (suc opened) fixed_point
    ∷ below opened variable ∷ one opened repetition ∷ []) tag (next bottom places))

-- "version, 1; token count T, 1 to 24; rule count R, 1 to 32; per rule ..; one expression"
unfoldable pub sheet_format : Format Contents
sheet_format =
    field 4 (between 1 1) (λ version. field 4 (between 1 most_tokens) (λ tokens. field 4 (between 1 most_rules)
    (λ count. rules_format tokens count 0 0 (λ rules actions. expression_format most_expression_nodes tokens 0 []
    (λ g nodes. done (record { sheet = record { tokens = tokens; rules = rules; expression = g }; action_places = actions; node_places = nodes }))))))

-- What bytes are as a sheet: its contents, or the question from 3 to 6 that fails first, and its place. "Is this number present, whole ..
-- and below 2^64? No: 3." "Does the sheet end after its expression? No: 6, at the first byte left over."
abbrev pub SheetAnswer : List ℕ → Reading Contents → Type 0
SheetAnswer bytes x = FormatAnswer NumberBytes bytes 3 6 sheet_format 0 x

-- The bytes spell a sheet, with its places: they are at most "4,096 bytes", and they answer so.
pub record SpellsContents (bytes : List ℕ) (c : Contents) : Type 0 where
  pub bytes_most : length bytes ≤ most_sheet_bytes
  pub answered : SheetAnswer bytes (got c (length bytes))

abbrev pub Spells : List ℕ → Sheet → Type 0
Spells bytes s = (c : Contents) × SpellsContents bytes c × (c.sheet ≡ s)
