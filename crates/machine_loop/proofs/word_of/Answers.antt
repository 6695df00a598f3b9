-- `word_of` meets its contract.
use mathlib.Core.Path.{sym, ap, subst, ◌∙◌}
use native.Mathlib.Omega.{arith}
use Rattle.scanner.specs.Meaning.{match_of}
use Rattle.alive_scanner.specs.Ahead.{word_match}
use Rattle.alive_scanner.proofs.laws.WordLaws.{word_none, word_some}
use Rattle.machine_loop.specs.Turning.{WordFits}
use Rattle.machine_loop.proofs.word_of.Goals as goal

pub returns-in-None : goal.returns-in-None
unfolding match_of
returns-in-None c = word_none ∙ ap match_of (sym c.in-None.is)

pub match_word-requires : goal.match_word-requires
match_word-requires c = (subst WordFits c.in-Some.is c.requires).1

pub returns-in-Some : goal.returns-in-Some
unfolding match_of
returns-in-Some c =
    let fits = subst WordFits c.in-Some.is c.requires in
    ap word_match c.match_word.ensures ∙ word_some _ _ (omega arith) fits.0 ∙ ap match_of (sym c.in-Some.is)
