-- One name that opens every definition of this crate and of those below it, for theorems that compute.
use Rattle.basics.specs.Bits.{bit}
use Rattle.basics.specs.Lists.{filter, partition}
use Rattle.basics.specs.Settle.{settle, same_all, least_solution}
use Rattle.basics.specs.Meeting.{is_met, meet, meet_all, meet_rows, number_of}

unfoldable pub computing_laws : Unit {0}
unfolding bit filter partition settle same_all least_solution is_met meet meet_all meet_rows number_of
computing_laws = tt
