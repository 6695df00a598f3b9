-- `scanner::lowest_first` meets its contract: trailing zeros tell the first member of the rising list.
use native.Mathlib.Omega.{arith}
use Rattle.lexer.proofs.laws.SetWalkLaws.{members-step}
use Rattle.scanner.proofs.lowest_first.Goals as goal

pub returns : goal.returns
returns c = members-step c.args.set (λ e. omega arith) (omega arith)
