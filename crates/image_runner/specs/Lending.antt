-- What a run returns, and what it has left of all that it was lent. The run itself is defined in machine.
use Rattle.machine.specs.Lent.{Lent, Ran}
use Rattle.machine_turn.specs.Steps.{answer_held}
use Rattle.machine_turn.specs.declared.RunAnswer.{RunAnswer}

-- The answer that a run returns, and what it leaves.
abbrev pub ran : RunAnswer → Lent → Ran
ran r left = record { answer = answer_held r; left = left }
