-- `image_encoder::emit_productions` meets its contract, rule by rule.
use mathlib.Core.Path.{◌≡◌, sym, ap, subst, ◌∙◌}
use mathlib.Core.List.{List}
use Prim.Native.Nat.{ℕ, ◌<◌}
use native.Mathlib.Omega.{arith}
use lib.ListN.{length}
use Rattle.std.specs.Prelude.{Some, None}
use Rattle.basics.specs.Lists.{All}
use Rattle.basics.specs.Meeting.{meet_all}
use Rattle.node_numbering.proofs.Meeting.{found_members, none-met, rule_leads, rule-joined, none-joined}
use Rattle.node_numbering.proofs.Reaching.{row_members, row-whole, tail_members-here, tail_nodes}
use Rattle.node_numbering.proofs.Tails.{tail_by_action}
use Rattle.node_numbering.specs.laws.Below.{concat_below}
use Rattle.node_numbering.specs.Grammar.{Numbers}
use Rattle.node_numbering.specs.Leads.{Leads}
use Rattle.image_encoder.proofs.Writing.{nothing_yet, no_production}
use Rattle.image_encoder.proofs.Rows.{counted-none, counted_same, counted-more, counted-all}
use Rattle.image_encoder.proofs.Rows.{production-more, productions_emitted}
use Rattle.image_encoder.proofs.emit_productions.Goals as goal

pub loop-rule-init : goal.loop-rule-init
loop-rule-init c = record {
  near = omega arith;
  within = omega arith;
  few = c.requires.few;
  counted = λ rs e h inside. counted-none rs e _;
  emitted = λ rs e h inside nodes all n leads.
      (subst (Numbers _) (sym (none-joined nodes all (row_members rs e _))) n, nothing_yet _ _ _);
}

pub loop-rule-preserved-in_default : goal.loop-rule-preserved-in_default
loop-rule-preserved-in_default c =
    let l = c.loop-rule in
    let node = c.args.node in record {
      near = omega arith;
      within = omega arith;
      few = l.invariant.few;
      counted = λ rs e h inside.
          let here = rw c.in_default.is at (tail_by_action _ rs e h l.rule c.loop-rule-test.true _ _ (c.rule_tail.ensures.same e h.columns inside)) in
          counted_same rs e node l.rule l.count (l.invariant.counted rs e h inside) here;
      emitted = λ rs e h inside nodes all n leads.
          let here = rw c.in_default.is at (tail_by_action _ rs e h l.rule c.loop-rule-test.true _ _ (c.rule_tail.ensures.same e h.columns inside)) in
          let so_far = l.invariant.emitted rs e h inside nodes all n leads in
          let before-it = meet_all nodes (concat_below (row_members rs e node) l.rule) in (
            subst (Numbers _) (sym (rule-joined nodes all (row_members rs e node) l.rule
                ∙ ap (meet_all before-it) (tail_members-here rs e node l.rule None here) ∙ none-met before-it)) so_far.0,
            production-more all rs e node l.rule None here so_far.1 (no_production _ _ _ all),
          );
    }

pub loop-rule-preserved : goal.loop-rule-preserved
loop-rule-preserved c =
    let l = c.loop-rule in
    let node = c.args.node in
    let t = c.in-Some.tail in
    let x = c.emit_production-next in record {
      near = omega arith;
      within = omega arith;
      few = x.ensures.few;
      counted = λ rs e h inside.
          let here = rw c.in-Some.is at (tail_by_action _ rs e h l.rule c.loop-rule-test.true _ _ (c.rule_tail.ensures.same e h.columns inside)) in
          counted-more rs e node l.rule l.count (l.invariant.counted rs e h inside) t here;
      emitted = λ rs e h inside nodes all n leads.
          let here = rw c.in-Some.is at (tail_by_action _ rs e h l.rule c.loop-rule-test.true _ _ (c.rule_tail.ensures.same e h.columns inside)) in
          let so_far = l.invariant.emitted rs e h inside nodes all n leads in
          let before-it = meet_all nodes (concat_below (row_members rs e node) l.rule) in
          let members = tail_members-here rs e node l.rule (Some t) here ∙ found_members t in
          let it = rule_leads nodes all (row_members rs e node) (length rs) l.rule (omega (arith, h.rule_count, c.loop-rule-test.true)) leads in
          let y = x.ensures.emitted before-it all so_far.0 (subst (λ (m : List ℕ). Leads before-it m all) members it)
          (subst (All (λ n. n < 64)) (found_members t) (tail_nodes _ rs e h node l.rule (Some t) here)) in (
            subst (Numbers _) (sym (rule-joined nodes all (row_members rs e node) l.rule ∙ ap (meet_all before-it) members)) y.0,
            production-more all rs e node l.rule (Some t) here so_far.1 y.1,
          );
    }

pub returns-clause-emitted : goal.returns-clause-emitted
returns-clause-emitted c =
    let l = c.loop-rule in
    let node = c.args.node in
    λ rs e h inside.
    let same : l.rule ≡ length rs = omega (arith, h.rule_count, l.auto.rule-end, c.loop-rule-test.false) in (
      counted-all _ rs e h node l.rule _ l.auto.rule-end c.loop-rule-test.false (l.invariant.counted rs e h inside),
      λ nodes all n leads.
          let rules_done = l.invariant.emitted rs e h inside nodes all n
          (subst (λ (m : List ℕ). Leads nodes m all) (sym (row-whole rs e node)) leads) in (
            subst (λ (m : List ℕ). Numbers l.numbering (meet_all nodes m))
                (ap (concat_below (row_members rs e node)) same ∙ row-whole rs e node) rules_done.0,
            productions_emitted _ all rs e h node l.rule l.auto.rule-end c.loop-rule-test.false rules_done.1,
          ),
    )
