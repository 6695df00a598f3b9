use Rattle.std.proofs.Common.{rules, ◌≡◌, Err}
use native.Mathlib.Omega.{arith}
use native.Mathlib.Numerals.{add-one}
use mathlib.Core.Path.{sym, ap, ◌∙◌}
use mathlib.Core.List.{[]}
use Prim.Native.Nat.{suc}
use Rattle.image_reader.proofs.Productions.{entering-none, entering-more}
use Rattle.image_reader.proofs.Turns.{turns_start, turns_more, turns_state, turns_stop, turns_end}
use Rattle.image_reader.proofs.read_productions.Goals as goal

pub loop-i-init : goal.loop-i-init
loop-i-init c = (omega arith, omega arith, ([], turns_start _ _ _ _ _, entering-none _ _ _ _ _ c.requires.4))

pub returns-in_err-production : goal.returns-in_err-production
returns-in_err-production c =
    let up : c.from_residual.result ≡ Err c.in_err-production.field-0.0 = search rules in
    let l = c.loop-i.invariant.2 in
    rw up (l.2.room.size, turns_stop l.1 (omega arith) c.in_err-production.ensures)

pub loop-i-preserved : goal.loop-i-preserved
loop-i-preserved c =
    let p = c.requires in
    let l = c.loop-i.invariant.2 in
    let one = c.in_ok-production.ensures in
    let k = one.holds in
    let tail = c.tail_entry-entry.ensures _ _ k.tail p.0.most_nonterminals in (
      omega arith,
      omega arith,
      (
        _,
        turns_state (turns_more l.1 (omega arith) one.reads) (ap suc k.head ∙ sym (add-one _)),
        entering-more _ _ _ _ _ _ _ _ l.2 _ _ _ k.head k.at_least k.below p.3 tail,
      ),
    )

pub returns : goal.returns
returns c =
    let l = c.loop-i.invariant.2 in (
      l.2.room.size,
      record {
        what = l.0;
        reads = turns_end l.1 (omega arith);
        holds = record { entries = l.2.entries; same = l.2.same; room = l.2.room };
      },
    )
