-- `with_flag` meets its contract.
use borrow.Author.Rules.{rules}
use Rattle.image_reader.specs.Answers.{with_flag}
use Rattle.image_reader.proofs.with_flag.Goals as goal

pub returns : goal.returns
unfolding with_flag
returns c = search rules
