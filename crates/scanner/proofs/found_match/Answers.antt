-- `scanner::found_match` meets its contract.
use mathlib.Core.Path.{◌≡◌, sym}
use native.Mathlib.Omega.{arith}
use Rattle.std.specs.Prelude.{None}
use Rattle.lexer.specs.Match.{longer}
use Rattle.scanner.specs.Meaning.{match_of, rule_of}
use Rattle.scanner.specs.Sets.{match_by}
use Rattle.scanner.proofs.found_match.Goals as goal

pub returns-in_err-rule : goal.returns-in_err-rule
unfolding match_of rule_of match_by longer
returns-in_err-rule c =
    let gone : c.from_residual.result ≡ None = grind arith in
    rw (gone, sym c.in_err-rule.ensures)

pub returns : goal.returns
unfolding match_of rule_of match_by longer
returns c = rw (sym c.in_ok-rule.ensures)
