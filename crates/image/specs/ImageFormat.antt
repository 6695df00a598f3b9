-- The format of an image: its numbers in order, each with the values that are allowed there, given those before it, and the image that
-- they make ("The image", "A readable image has every value in these ranges .."). From it, which bytes are readable, and where those
-- that are not first offend. How bytes are read is not said here.
use Rattle.std.specs.Prelude.{◌≡◌, Bool, true, not, ◌&&◌, List, [], ◌∷◌, ℕ, zero, suc, ◌^◌, ◌<◌, eqb, ltb, leb, length, get_or}
use Rattle.number.specs.Number.{encode}
use Rattle.sheet.specs.Limits.{most_rules}
use Rattle.sheet.specs.Field.{stop, got, between}
use Rattle.sheet.specs.Format.{Format, done, field, FormatAnswer}
use Rattle.normal_form.specs.Productions.{Production, Row, most_tail}
use Rattle.lexer.specs.Positions.{Position}
use Rattle.image.specs.Image.{Image}

-- Each format takes what follows the thing that it is of, given the thing. Of every number: "Is the image readable? No: 13". A flag is 1 if
-- it is so, else 0.
unfoldable pub flag_field : {A : Type 0} → (Bool → Format A) → Format A
flag_field next = field 13 (between 0 1) (λ v. next (eqb v 1))

-- So many things in a row. What stands before decides what is allowed next, by a state.
unfoldable pub many_fields : {S T A : Type 0} → (S → (T → Format A) → Format A) → (S → T → S) → S → ℕ → (List T → Format A) → Format A
many_fields one update s zero next = next []
many_fields one update s (suc n) next = one s (λ t. many_fields one update (update s t) n (λ ts. next (t ∷ ts)))

-- Their number, and then so many. The number may decide what is allowed too.
unfoldable pub counted : {S T A : Type 0} → (ℕ → Bool) → (ℕ → S → (T → Format A) → Format A) → (S → T → S) → S → (ℕ → List T → Format A) → Format A
counted allowed one update s next = field 13 allowed (λ n. many_fields (one n) update s n (next n))

-- "low, high, rule, last (0 or 1), follow set": "low ≤ high, rules of positions below R and never falling, sets below 2^P"
unfoldable pub position_format : {A : Type 0} → ℕ → ℕ → ℕ → (Position → Format A) → Format A
position_format rules count before next =
    field 13 (between 0 255) (λ low. field 13 (between low 255) (λ high. field 13 (λ v. leb before v && ltb v rules)
    (λ rule. flag_field (λ last. field 13 (λ v. ltb v (2 ^ count))
    (λ follow. next (record { low = low; high = high; rule = rule; last = last; follow = follow }))))))

-- "rule, tail length .., tail"; "Tails and their image field run to 32"; "production rules below R, rising and not skipping, tail
-- members below the nonterminal count"
unfoldable pub production_format : {A : Type 0} → List Bool → ℕ → ℕ → (Production → Format A) → Format A
production_format skips count least next = field 13 (λ v. leb least v && (ltb v (length skips) && not (get_or skips v true)))
    (λ rule. counted (between 0 most_tail) (λ size (s : Bool). field 13 (λ v. ltb v count)) (λ s m. s) true
    (λ size tail. next (record { head = rule; tail = tail })))

-- "its ε flag, production count (0 to 32) and productions by rising rule"
unfoldable pub row_format : {A : Type 0} → List Bool → ℕ → (Row → Format A) → Format A
row_format skips count next =
    flag_field (λ has_epsilon. counted (between 0 32) (λ size. production_format skips count) (λ least p. suc p.head) 0
    (λ size productions. next (record { has_epsilon = has_epsilon; productions = productions })))

-- "version 1; R; per rule 1 if it skips, else 0; position count P, 1 to 64; per position ..; first set; nonterminal count, 1 to 64; per
-- nonterminal .."
unfoldable pub image_format : {A : Type 0} → (Image → Format A) → Format A
image_format next =
    field 13 (between 1 1) (λ version. counted (between 1 most_rules) (λ rules (s : Bool). flag_field) (λ s b. s) true
    (λ rules skips. counted (between 1 64) (position_format rules) (λ before p. p.rule) 0
    (λ count positions. field 13 (λ v. ltb v (2 ^ count))
    (λ first. counted (between 1 64) (λ nonterminals (s : Bool). row_format skips nonterminals) (λ s r. s) true
    (λ nonterminals rows. next (record { skips = skips; positions = positions; first = first; rows = rows }))))))

-- A number "uses the fewest bytes and lies below 2^64": in an image these bytes are written for it.
abbrev pub Fewest : ℕ → List ℕ → Type 0
Fewest n bytes = (n < 2 ^ 64) × (bytes ≡ encode n)

-- The bytes of an image whose values are all in range, "and nothing after".
abbrev pub ReadableAs : List ℕ → Image → Type 0
ReadableAs bytes i = FormatAnswer Fewest bytes 13 13 (image_format done) 0 (got i (length bytes))

-- "13, at the first offending number or leftover byte"
abbrev pub FirstOffence : List ℕ → ℕ → Type 0
FirstOffence bytes place = FormatAnswer Fewest bytes 13 13 (image_format done) 0 (stop 13 place)
