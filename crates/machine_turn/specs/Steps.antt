-- What the functions of a turn answer, in the terms of the tables and of the stack. The machine itself is defined in
-- machine; `TurnLaws` joins a turn here to a turn there.
use Rattle.std.specs.Prelude.{Bool, true, false, ◌&&◌, cond, List, [], ◌∷◌, ℕ, zero, suc, ◌+◌, ◌*◌, ◌<◌, ltb, eqb, length, get_or, Option, Some, None, Result, Ok, Err}
use Rattle.basics.specs.Bits.{bit}
use Rattle.scanner.specs.declared.Match.{Match}
use Rattle.image_reader.specs.Tables.{entry_tail}
use Rattle.image.specs.Answer.{Answer, answer}
use Rattle.machine.specs.Trace as machine
use Rattle.machine_turn.specs.Stack.{pending, pushed}
use Rattle.machine_turn.specs.declared.RunAnswer.{RunAnswer}
use Rattle.machine_turn.specs.declared.Taker.{Taker}
use Rattle.machine_turn.specs.declared.Taken.{Taken}
use Rattle.machine_turn.specs.declared.Taken.TheVariants.{Pending, NoTaker, TooDeep}
use Rattle.machine_turn.specs.declared.State.{State}

-- The answer that a run returns.
unfoldable pub answer_held : RunAnswer → Answer
answer_held r = answer r.number r.place r.count

abbrev pub run_answer : ℕ → ℕ → ℕ → RunAnswer
run_answer number place count = record { number = number; place = place; count = count }

abbrev pub state_at : ℕ → ℕ → ℕ → ℕ → State
state_at place depth first count = record { place = place; depth = depth; first = first; count = count }

-- The machine's state that a state and the stack hold, with the takes so far, of which the code keeps the number alone.
abbrev pub state_held : List machine.Take → List ℕ → State → machine.State
state_held takes stack s = machine.state s.place (pending stack s.depth s.first) takes

-- The first pending nonterminal that takes a rule, where those before it are nullable: how many are pending behind it, itself, and its
-- entry in the table of productions.
unfoldable pub taker : List ℕ → ℕ → List ℕ → ℕ → ℕ → ℕ → Option Taker
taker productions empty stack zero first rule = None
taker productions empty stack (suc below) first rule =
    cond (eqb (get_or productions (first * 32 + rule) 0) 0)
    (cond (bit empty first) (taker productions empty stack below (get_or stack below 0) rule) None)
    (Some (record { below = below; nonterminal = first; entry = get_or productions (first * 32 + rule) 0 }))

-- Whether all of these are members of a set.
unfoldable pub all_members : ℕ → List ℕ → Bool
all_members s [] = true
all_members s (n ∷ l) = bit s n && all_members s l

-- The answer at the text's end, which is p.
unfoldable pub end_answer : ℕ → List ℕ → ℕ → ℕ → RunAnswer
end_answer empty l p count = cond (all_members empty l) (run_answer 0 p count) (run_answer 16 p count)

-- What a take leaves.
pub record TakeStep : Type 0 where
  pub outcome : Taken
  pub stack : List ℕ

-- A tail replaces its taker, behind which so many are pending, unless the stack does not hold all.
unfoldable pub replaced : List ℕ → ℕ → List ℕ → TakeStep
replaced stack below [] = record { outcome = Pending below (get_or stack below 0); stack = stack }
replaced stack below (n ∷ tail) =
    cond (ltb (length stack) (suc below + length tail))
    (record { outcome = TooDeep; stack = stack })
    (record { outcome = Pending (suc below + length tail) n; stack = pushed stack (suc below) tail })

unfoldable pub replace_taker : List ℕ → List ℕ → List ℕ → Option Taker → TakeStep
replace_taker bytes starts stack None = record { outcome = NoTaker; stack = stack }
replace_taker bytes starts stack (Some t) = replaced stack t.below (entry_tail bytes (get_or starts t.nonterminal 0) t.entry)

unfoldable pub take_step : List ℕ → List ℕ → List ℕ → ℕ → List ℕ → ℕ → ℕ → ℕ → TakeStep
take_step bytes starts productions empty stack depth first rule =
    replace_taker bytes starts stack (taker productions empty stack depth first rule)

-- What a turn leaves.
pub record TurnStep : Type 0 where
  pub outcome : Result State RunAnswer
  pub stack : List ℕ

-- The turn of a match of n bytes that a take ends: "a token that meets 15 or 17 is not counted".
unfoldable pub step_after_take : ℕ → State → Taken → Result State RunAnswer
step_after_take n s (Pending depth first) = Ok (state_at (s.place + n) depth first (s.count + 1))
step_after_take n s NoTaker = Err (run_answer 15 s.place s.count)
step_after_take n s TooDeep = Err (run_answer 17 s.place s.count)

-- The turn of a rule that skips, or of a take.
unfoldable pub turn_by : Bool → List ℕ → ℕ → State → TakeStep → TurnStep
turn_by true stack n s t = record { outcome = Ok (state_at (s.place + n) s.depth s.first s.count); stack = stack }
turn_by false stack n s t = record { outcome = step_after_take n s t.outcome; stack = t.stack }

-- A turn, given what matched at the state's place.
unfoldable pub turn_step : List ℕ → List ℕ → List ℕ → ℕ → ℕ → List ℕ → Option Match → State → TurnStep
turn_step bytes starts productions empty skips stack None s =
    record { outcome = Err (run_answer 14 s.place s.count); stack = stack }
turn_step bytes starts productions empty skips stack (Some m) s =
    turn_by (bit skips m.rule) stack m.length s (take_step bytes starts productions empty stack s.depth s.first m.rule)

-- What a turn asks of a match at a state: its rule has its place in the tables, and place and count can go on.
abbrev pub MatchFits : Option Match → State → Type 0
MatchFits None s = Unit
MatchFits (Some m) s = (m.rule < 32) × (s.place + m.length < 18446744073709551616) × (s.count < s.place + m.length)
