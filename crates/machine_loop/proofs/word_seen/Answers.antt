-- `word_seen` meets its contract.
use borrow.Author.Tests.{eq-eqb, ne_eqb}
use Rattle.scanner.specs.Meaning.{match_of}
use Rattle.alive_scanner.specs.Ahead.{word_match}
use Rattle.machine_loop.proofs.word_seen.Goals as goal

pub returns-then-word-eq0 : goal.returns-then-word-eq0
unfolding match_of word_match
returns-then-word-eq0 c = rw (eq-eqb c.args.word 0 c.if-word-eq0.true)

pub returns : goal.returns
unfolding match_of word_match
returns c = rw (ne_eqb c.args.word 0 c.if-word-eq0.false)
