-- One turn of each reader, as the code takes it: a field, a part of a rule, an expression node. Which nodes come after one another
-- is the definition's to say, to which the proofs lead each turn.
use Rattle.std.specs.Prelude.{Bool, cond, ◌&&◌, List, ℕ, eqb, ltb, leb, Result, Ok}
use Rattle.sheet.specs.Limits.{most_tokens, most_rules}
use Rattle.sheet.specs.Field.{Reading, stop, got, and_then, between}
use Rattle.sheet.specs.Items.{RegexItem, empty_item, class_item, concat_item, union_item, star_item, ExpressionItem}
use Rattle.sheet.specs.Reading.{sheet_field, regex_item, expression_item}
use Rattle.sheet.specs.laws.ExpressionItems.{expression_tag}
use Rattle.columns.specs.Holds.{number_after}
use Rattle.sheet_reader.specs.declared.Refusal.{Refusal}
use Rattle.sheet_reader.specs.declared.Got.{Got}
use Rattle.sheet_reader.specs.declared.Counted.{Counted}
use Rattle.sheet_reader.specs.declared.RuleTurn.{RuleTurn}
use Rattle.sheet_reader.specs.declared.RuleTurn.TheVariants.{Action, Class, Plain, Over}
use Rattle.sheet_reader.specs.declared.ExpressionTurn.{ExpressionTurn}
use Rattle.sheet_reader.specs.Reads.{refused}

-- From the least on, below the limit.
unfoldable pub in_range : ℕ → ℕ → ℕ → Bool
in_range least limit v = leb least v && ltb v limit

-- The answer that says what was read and the place after it.
abbrev pub was_got : {A : Type 0} → A → ℕ → Result (Got A) Refusal
was_got a next = Ok (record { value = a; next = next })

-- A reading as the code answers it.
unfoldable pub answer : {A : Type 0} → Reading A → Result (Got A) Refusal
answer (stop question place) = refused question place
answer (got a next) = was_got a next

-- "version, 1; token count T, 1 to 24; rule count R, 1 to 32"
unfoldable pub header : List ℕ → Reading Counted
header bytes =
    and_then (sheet_field (between 1 1) bytes 0)
    (λ version at_tokens. and_then (sheet_field (between 1 most_tokens) bytes at_tokens)
    (λ tokens at_count. and_then (sheet_field (between 1 most_rules) bytes at_count)
    (λ count at_rules. got (record { tokens = tokens; rules = count }) at_rules)))

-- A regex node, while so many nodes and classes are allowed: its tag's field, then the limit on nodes, then what the tag asks.
unfoldable pub regex_turn : List ℕ → ℕ → ℕ → ℕ → Reading RegexItem
regex_turn bytes left classes at =
    and_then (sheet_field (between 0 4) bytes at)
    (λ tag next. cond (eqb left 0) (stop 5 at) (regex_item bytes classes at tag next))

unfoldable pub node_answer : Reading RegexItem → Result RuleTurn Refusal
node_answer (stop question place) = refused question place
node_answer (got empty_item next) = Ok (Plain 0 0 next)
node_answer (got (class_item low high) next) = Ok (Class low high next)
node_answer (got concat_item next) = Ok (Plain 2 2 next)
node_answer (got union_item next) = Ok (Plain 3 2 next)
node_answer (got star_item next) = Ok (Plain 4 1 next)

-- The next rule's action, while rules are left.
unfoldable pub action_answer : Reading ℕ → Result RuleTurn Refusal
action_answer (stop question place) = refused question place
action_answer (got action next) = Ok (Action action next)

unfoldable pub action_turn : List ℕ → ℕ → ℕ → ℕ → Result RuleTurn Refusal
action_turn bytes tokens left at = cond (eqb left 0) (Ok Over) (action_answer (sheet_field (between 0 tokens) bytes at))

-- What comes next in the rules, while so many rules are left and so many regexes due.
unfoldable pub rule_turn : List ℕ → ℕ → ℕ → ℕ → ℕ → ℕ → ℕ → Result RuleTurn Refusal
rule_turn bytes tokens left due nodes classes at =
    cond (eqb due 0) (action_turn bytes tokens left at) (node_answer (regex_turn bytes nodes classes at))

-- An expression node inside so many open fixed points, while so many nodes are allowed.
unfoldable pub expression_turn : List ℕ → ℕ → ℕ → ℕ → ℕ → Reading ExpressionItem
expression_turn bytes tokens left opened at =
    and_then (sheet_field (between 0 7) bytes at)
    (λ tag next. cond (eqb left 0) (stop 5 at) (expression_item bytes tokens opened at tag next))

abbrev pub turned : ℕ → ℕ → ℕ → Result ExpressionTurn Refusal
turned tag number next = Ok (record { tag = tag; number = number; next = next })

unfoldable pub expression_answer : Reading ExpressionItem → Result ExpressionTurn Refusal
expression_answer (stop question place) = refused question place
expression_answer (got item next) = turned (expression_tag item) (number_after item) next

-- The same for a tag with a number after it, which is given.
unfoldable pub numbered_answer : ℕ → Reading ℕ → Result ExpressionTurn Refusal
numbered_answer tag (stop question place) = refused question place
numbered_answer tag (got number next) = turned tag number next
