-- The machine's state, and what a run keeps of it ("The machine"): the place in the text, the pending nonterminals and the takes so far.
-- The count of tokens is the number of takes. Which turn leads from a state to the next is not said here.
use Rattle.std.specs.Prelude.{Bool, true, false, ◌&&◌, List, [], ◌∷◌, ◌++◌, ℕ, length, drop}
use Rattle.std.proofs.Math.Option.{Option, none, some}
use Rattle.normal_form.specs.Productions.{Row, row_of, production_of, Taking}
use Rattle.lexer.specs.Match.{Match}
use Rattle.lexer.specs.Walk.{longest_match}
use Rattle.image.specs.Image.{Image}
use Rattle.image.specs.Answer.{Answer, answer}

-- "Matching starts at place p and sees only the rest of the text."
abbrev pub match_at : Image → List ℕ → ℕ → Match
match_at image text p = longest_match image.positions image.first (drop p text)

-- "the pending nonterminals are tried from the first. One with a production for that rule takes it, its tail replaces it .. A nullable one
-- without is dropped. Any other, or none left, means 15": who takes the rule, and what is pending then.
unfoldable pub taking : List Row → List ℕ → ℕ → Option Taking
taking rows [] rule = none
taking rows (n ∷ pending) rule =
    elim (production_of rule (row_of rows n).productions) [
      | some p ↦ some (record { taker = n; pending = p.tail ++ pending })
      | none ↦ elim (row_of rows n).has_epsilon [ true ↦ taking rows pending rule | false ↦ none ]
    ]

-- "At the end all pending ones must be nullable."
unfoldable pub all_nullable : List Row → List ℕ → Bool
all_nullable rows [] = true
all_nullable rows (n ∷ pending) = (row_of rows n).has_epsilon && all_nullable rows pending

-- A token taken: where it starts, how many bytes it has, the image's rule that matched, and the nonterminal that took it.
pub record Take : Type 0 where
  pub start : ℕ
  pub bytes : ℕ
  pub rule : ℕ
  pub taker : ℕ

abbrev pub take_of : ℕ → ℕ → ℕ → ℕ → Take
take_of start bytes rule taker = record { start = start; bytes = bytes; rule = rule; taker = taker }

-- The place p, the pending nonterminals, and the takes so far, in order.
pub record State : Type 0 where
  pub place : ℕ
  pub pending : List ℕ
  pub takes : List Take

abbrev pub state : ℕ → List ℕ → List Take → State
state place pending takes = record { place = place; pending = pending; takes = takes }

-- "Pending nonterminals start as 0 alone."
abbrev pub start_state : State
start_state = state 0 (0 ∷ []) []

-- How a run ends: its number, and the state that it ends in.
pub record Ended : Type 0 where
  pub number : ℕ
  pub last : State

abbrev pub ended : ℕ → State → Ended
ended number last = record { number = number; last = last }

-- "Running returns number, place, tokens taken"
unfoldable pub answer_of : Ended → Answer
answer_of e = answer e.number e.last.place (length e.last.takes)
