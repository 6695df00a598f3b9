-- Reading an image from bytes, a part at a time, as code reads it: question 13, "at the first offending number or leftover byte". Which
-- numbers an image has is said by its format (ImageFormat), and that this reads by it in ReadableImages (`read_image_iff`).
use Rattle.std.specs.Prelude.{Bool, true, not, ◌&&◌, cond, List, ℕ, suc, ◌^◌, length, get_or, eqb, ltb, leb}
use Rattle.number.specs.Number.{decode_fewest}
use Rattle.sheet.specs.Limits.{most_rules}
use Rattle.sheet.specs.Field.{Reading, stop, got, and_then, between, read_field, read_many}
use Rattle.normal_form.specs.Productions.{Production, Row, most_tail}
use Rattle.lexer.specs.Positions.{Position}
use Rattle.image.specs.Image.{Image}

-- A number of an image, in the fewest bytes: 13 where it is not readable, padded (ReadableImages: `padded_offends`) or not allowed.
unfoldable pub image_field : (ℕ → Bool) → List ℕ → ℕ → Reading ℕ
image_field = read_field decode_fewest 13 13

-- A flag: 0 or 1.
unfoldable pub read_flag : List ℕ → ℕ → Reading Bool
read_flag bytes at = and_then (image_field (between 0 1) bytes at) (λ v next. got (eqb v 1) next)

-- Things that are read alike, one after the other: the state says nothing.
unfoldable pub read_list : {A : Type 0} → (ℕ → Reading A) → ℕ → ℕ → Reading (List A)
read_list one = read_many (λ (s : Bool) at. one at) (λ s a. s) true

-- A position, where there are so many rules and positions, and the position before has the rule `before`.
unfoldable pub read_position : List ℕ → ℕ → ℕ → ℕ → ℕ → Reading Position
read_position bytes rules count before at =
    and_then (image_field (between 0 255) bytes at)
    (λ low at_high. and_then (image_field (between low 255) bytes at_high)
    (λ high at_rule. and_then (image_field (λ v. leb before v && ltb v rules) bytes at_rule)
    (λ rule at_last. and_then (read_flag bytes at_last)
    (λ last at_follow. and_then (image_field (λ v. ltb v (2 ^ count)) bytes at_follow)
    (λ follow end. got (record { low = low; high = high; rule = rule; last = last; follow = follow }) end)))))

-- A production whose rule is `least` or above, below R and not skipping; tail members are below the nonterminal count.
unfoldable pub read_production : List ℕ → List Bool → ℕ → ℕ → ℕ → Reading Production
read_production bytes skips count least at =
    and_then (image_field (λ v. leb least v && (ltb v (length skips) && not (get_or skips v true))) bytes at)
    (λ rule at_length. and_then (image_field (between 0 most_tail) bytes at_length)
    (λ size at_tail. and_then (read_list (image_field (λ v. ltb v count) bytes) size at_tail)
    (λ tail end. got (record { head = rule; tail = tail }) end)))

-- A row. Rules rise, so that after a production of rule r the least is r + 1.
unfoldable pub read_row : List ℕ → List Bool → ℕ → ℕ → Reading Row
read_row bytes skips count at =
    and_then (read_flag bytes at)
    (λ empty at_count. and_then (image_field (between 0 32) bytes at_count)
    (λ productions at_first. and_then (read_many (read_production bytes skips count) (λ least p. suc p.head) 0 productions at_first)
    (λ ps end. got (record { has_epsilon = empty; productions = ps }) end)))

-- "and nothing after"
unfoldable pub image_end : List ℕ → Image → ℕ → Reading Image
image_end bytes i end = cond (eqb end (length bytes)) (got i end) (stop 13 end)

unfoldable pub read_image : List ℕ → Reading Image
read_image bytes =
    and_then (image_field (between 1 1) bytes 0)
    (λ version at_rules. and_then (image_field (between 1 most_rules) bytes at_rules)
    (λ rules at_skips. and_then (read_list (read_flag bytes) rules at_skips)
    (λ skips at_count. and_then (image_field (between 1 64) bytes at_count)
    (λ count at_positions. and_then (read_many (read_position bytes rules count) (λ before p. p.rule) 0 count at_positions)
    (λ ps at_first. and_then (image_field (λ v. ltb v (2 ^ count)) bytes at_first)
    (λ first at_nonterminals. and_then (image_field (between 1 64) bytes at_nonterminals)
    (λ nonterminals at_rows. and_then (read_list (read_row bytes skips nonterminals) nonterminals at_rows)
    (λ rows end. image_end bytes (record { skips = skips; positions = ps; first = first; rows = rows }) end))))))))
