use Rattle.std.proofs.Common.{rules, ◌≡◌, Err}
use native.Mathlib.Omega.{arith}
use mathlib.Core.Path.{sym, subst, ◌∙◌}
use mathlib.Core.List.{[]}
use Prim.Native.Nat.{ℕ}
use Rattle.image_reader.specs.Tables.{MembersHeld}
use Rattle.image_reader.proofs.Fields.{field-below}
use Rattle.image_reader.proofs.Tails.{held-none, held-more}
use Rattle.image_reader.proofs.Turns.{listing_start, turns_more, turns_stop, turns_end}
use Rattle.image_reader.proofs.read_tail.Goals as goal

pub loop-i-init : goal.loop-i-init
loop-i-init c = ([], listing_start _ _ _, held-none _ _ _ c.requires.2)

pub returns-in_err-member : goal.returns-in_err-member
returns-in_err-member c =
    let up : c.from_residual.result ≡ Err c.in_err-member.field-0.0 = search rules in
    rw up (turns_stop c.loop-i.invariant.1 (omega arith) (sym (field-below _ _ _ c.requires.0) ∙ sym c.in_err-member.ensures))

pub loop-i-preserved : goal.loop-i-preserved
loop-i-preserved c =
    let p = c.requires in
    let l = c.loop-i.invariant in
    let e = sym c.in_ok-member.ensures in (
      _,
      turns_more l.1 (omega arith) (sym (field-below _ _ _ p.0) ∙ e),
      held-more _ _ _ _ _ _ _ l.0 (λ i. omega (arith, (c.type_inv.bytes i).fits)) p.0 p.1 e l.2,
    )

pub returns : goal.returns
returns c =
    let l = c.loop-i.invariant in
    let whole : c.loop-i._i ≡ c.args.size.value = omega arith in record {
      what = l.0;
      reads = turns_end l.1 (omega arith);
      holds = subst (λ (k : ℕ). MembersHeld c.args.bytes.now c.args.size.at c.args.nonterminals k c.loop-i.next l.0) whole l.2;
    }
