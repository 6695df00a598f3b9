-- `image_encoder::emit_production` meets its contract: the rule, the count, and the members' numbers.
use mathlib.Core.Path.{subst, ◌∙◌}
use mathlib.Core.List.{List}
use native.Mathlib.Omega.{arith}
use lib.ListN.{take}
use lib.Seq.{take_all}
use Rattle.basics.specs.Meeting.{meet_all}
use Rattle.node_numbering.proofs.Meeting.{member_met, member_number, nothing_met}
use Rattle.node_numbering.proofs.laws.JoinLaws.{within_after}
use Rattle.node_numbering.specs.Grammar.{Numbers}
use Rattle.image_encoder.proofs.Writing.{nothing_yet, one_more, all_done, same_number, production_emitted}
use Rattle.image_encoder.proofs.emit_production.Goals as goal

pub loop-member-init : goal.loop-member-init
loop-member-init c = record {
  near = omega arith;
  few = c.requires.few;
  emitted = λ nodes all n leads small. (nothing_met _ nodes n, nothing_yet _ _ _);
}

pub loop-member-preserved : goal.loop-member-preserved
loop-member-preserved c =
    let l = c.loop-member in
    let t = c.args.tail.now in
    let joins = rw c.from-node.ensures at c.meet.ensures in
    let number = rw c.from-node.ensures at c.number_of-own.ensures in
    let so_far = l.invariant in record {
      near = omega arith;
      few = within_after _ _ _ joins so_far.few;
      emitted = λ nodes all n leads small.
          let before-it = so_far.emitted nodes all n leads small in
          let met = member_met _ _ (take t.count t.members) l.member-index c.loop-member-test.true nodes all leads small before-it.0
          so_far.few.met so_far.few.number joins in
          let numbered = member_number _ _ (take t.count t.members) l.member-index c.loop-member-test.true nodes all leads small before-it.0
          so_far.few.met so_far.few.number joins in
          (met, one_more _ l.member-index before-it.1 (same_number (number ∙ numbered) c.emit-next-in-loop-member.ensures.emitted));
    }

pub returns-clause-emitted : goal.returns-clause-emitted
returns-clause-emitted c =
    let l = c.loop-member in
    let t = c.args.tail.now in
    λ nodes all n leads small.
    let so_far = l.invariant.emitted nodes all n leads small in (
      subst (λ (k : List _). Numbers l.numbering (meet_all nodes k))
          (take_all l.member-index (take t.count t.members) c.loop-member-test.false) so_far.0,
      production_emitted _ all t c.emit-after_rule.ensures.emitted c.emit-next.ensures.emitted
          (all_done _ l.member-index _ l.auto.member-index-end c.loop-member-test.false so_far.1),
    )
