-- One name that opens every definition of this crate and of those below it, for theorems that compute.
use Rattle.number.specs.Number.{count, value, highest, followed, front, fewest, judged, number_from, decode, unpadded, decode_fewest, encode_in, encode, splice, used, written, used_at, written_at}

unfoldable pub computing_number : Unit {0}
unfolding count value highest followed front fewest judged number_from decode unpadded decode_fewest encode_in encode splice used written used_at written_at
computing_number = tt
