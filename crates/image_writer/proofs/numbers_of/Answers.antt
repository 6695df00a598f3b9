-- `image_writer::numbers_of` meets its contract.
use mathlib.Core.Path.{refl}
use Rattle.image.specs.Answer.{numbers_of}
use Rattle.image_writer.specs.Answer.{answer_of}
use Rattle.image_writer.proofs.numbers_of.Goals as goal

pub returns-in-TooLong : goal.returns-in-TooLong
unfolding answer_of numbers_of
returns-in-TooLong c = rw c.in-TooLong.is refl

pub returns-in-Refused : goal.returns-in-Refused
unfolding answer_of numbers_of
returns-in-Refused c = rw (c.in-Refused.is, c.from.ensures) refl
