-- `production_finder::has_token` meets its contract.
use native.Mathlib.Omega.{arith}
use mathlib.Core.Path.{sym}
use Rattle.basics.proofs.laws.BitLaws.{bit_high}
use Rattle.production_finder.proofs.has_token.Goals as goal

pub returns-then-token-ge32 : goal.returns-then-token-ge32
returns-then-token-ge32 c = let a = c.args in sym (bit_high 32 a.set a.token (omega arith) c.if-token-ge32.true)
