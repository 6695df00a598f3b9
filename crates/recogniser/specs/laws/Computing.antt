-- One name that opens every definition that is computed with, of this crate and of those below it, for theorems that compute.
use Rattle.machine.specs.laws.Computing.{computing_machine}
use Rattle.recogniser.specs.Descending.{descend_step, descend, descend_whole}
use Rattle.recogniser.specs.Listing.{with_action, list_match, list_from, list_tokens}
use Rattle.recogniser.specs.Recognise.{descent_answer, after_listing, after_checking, recognise}

unfoldable pub computing_recogniser : Unit {0}
unfolding descend_step descend descend_whole with_action list_match list_from list_tokens descent_answer after_listing after_checking recognise computing_machine
computing_recogniser = tt
