-- `walk_seen` meets its contract.
use mathlib.Core.Path.{refl}
use Rattle.scanner.specs.Meaning.{match_of, told_of}
use Rattle.machine_loop.proofs.walk_seen.Goals as goal

pub returns-in-Nothing : goal.returns-in-Nothing
unfolding told_of match_of
returns-in-Nothing c = rw c.in-Nothing.is refl

pub returns-in-Rule : goal.returns-in-Rule
unfolding told_of match_of
returns-in-Rule c = rw c.in-Rule.is refl

pub returns-in-InVain : goal.returns-in-InVain
unfolding told_of match_of
returns-in-InVain c = rw c.in-InVain.is refl
