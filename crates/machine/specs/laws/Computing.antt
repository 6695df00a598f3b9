-- One name that opens every definition of this crate and of those below it, for theorems that compute.
use Rattle.machine.specs.Trace.{taking, all_nullable, answer_of}
use Rattle.machine.specs.Lent.{built, turned_away, finished}
use Rattle.machine.specs.Run.{after_taking, turn, end_number, text_turn, trace_from, trace, is_short, has_many_rows, run_image, run_reading, run}
use Rattle.image.specs.laws.Computing.{computing_image}

unfoldable pub computing_machine : Unit {0}
unfolding taking all_nullable answer_of built turned_away finished after_taking turn end_number text_turn trace_from trace is_short has_many_rows run_image run_reading run computing_image
computing_machine = tt
