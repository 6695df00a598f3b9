-- What stands at a place of a text: no digit, a digit, or the byte of two digits. On plain numbers and lists: nothing here speaks of the code.
use Rattle.std.proofs.Common.{◌≡◌, ℕ, ◌+◌, ◌*◌, ◌≤◌, ◌<◌, List, length, get_or, ap, refl, Option, Some, None}
use Rattle.std.specs.Prelude.{option_and_then}
use Rattle.std.proofs.lemmas.Option.{slice_get_read, slice_get_past}
use Rattle.hex_lines.specs.Hex.{digit_value, byte_of, digit_there, byte_there}

module _ (text : List ℕ) (at : ℕ) where
  pub none_there : length text ≤ at → digit_there text at ≡ None
  unfolding digit_there
  none_there h = ap (option_and_then digit_value) (slice_get_past text at h)

  pub digit_is : {x : ℕ} → at < length text → x ≡ get_or text at x → digit_there text at ≡ digit_value x
  unfolding digit_there
  digit_is {x} h e = ap (option_and_then digit_value) (slice_get_read text (length text) at x refl h e)

  pub no_high : digit_there text at ≡ None → byte_there text at ≡ None
  unfolding byte_there byte_of
  no_high e = rw e

  no_byte : (high : Option ℕ) → byte_of high None ≡ None
  unfolding byte_of
  no_byte None = refl
  no_byte (Some h) = refl

  pub no_low : digit_there text (at + 1) ≡ None → byte_there text at ≡ None
  unfolding byte_there
  no_low e = rw e (no_byte (digit_there text at))

  pub byte_is : {high low : ℕ} → digit_there text at ≡ Some high → digit_there text (at + 1) ≡ Some low → byte_there text at ≡ Some (high * 16 + low)
  unfolding byte_there byte_of
  byte_is e f = rw (e, f)
