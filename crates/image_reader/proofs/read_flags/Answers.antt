use Rattle.std.proofs.Common.{rules, ◌≡◌, Err}
use native.Mathlib.Omega.{arith}
use mathlib.Core.Path.{sym, subst}
use mathlib.Core.Bool.{Bool}
use mathlib.Core.List.{[]}
use Prim.Native.Nat.{ℕ}
use lib.Dec.{eqb}
use Rattle.image_reader.proofs.Flags.{FlagsHeld, held-none, held-more, held_list}
use Rattle.image_reader.proofs.Steps.{flag_reads, flag_stops}
use Rattle.image_reader.proofs.Turns.{listing_start, turns_more, turns_stop, turns_end}
use Rattle.image_reader.proofs.read_flags.Goals as goal

pub loop-i-init : goal.loop-i-init
loop-i-init c = ([], listing_start _ _ _, held-none)

pub returns-in_err-flag : goal.returns-in_err-flag
returns-in_err-flag c =
    let up : c.from_residual.result ≡ Err c.in_err-flag.field-0.0 = search rules in
    rw up (turns_stop c.loop-i.invariant.1 (omega arith) (flag_stops _ _ (sym c.in_err-flag.ensures)))

pub loop-i-preserved : goal.loop-i-preserved
loop-i-preserved c =
    let l = c.loop-i.invariant in
    let b : Bool = eqb c.in_ok-flag.flag.value 1 in
    (_, turns_more l.1 (omega arith) (flag_reads _ _ (sym c.in_ok-flag.ensures)), held-more _ _ _ l.0 b c.with_flag-set.ensures l.2)

pub returns : goal.returns
returns c =
    let l = c.loop-i.invariant in
    let whole : c.loop-i.i ≡ c.args.size.value = omega arith in
    let held = subst (λ (k : ℕ). FlagsHeld k c.loop-i.set l.0) whole l.2 in
    record { what = l.0; reads = turns_end l.1 (omega arith); holds = record { held = held_list _ _ l.0 held; bits = held.bits } }
