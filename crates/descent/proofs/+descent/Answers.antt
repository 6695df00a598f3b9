-- The functions of the descent's cycle, each by its law. What is not answered here, the search finds.
use Rattle.std.proofs.Common.{arith, rules, sym, ◌∙◌, inl, inr}
use Rattle.descent.proofs.After.{below-more, below_stuck, below_even}
use Rattle.descent.proofs.NodeKinds.{token_step, sequence_step, first-step, second-step, body-step, part-step, variable_stuck, variable_step, bare_step}
use Rattle.descent.proofs.Visits.{visit_begun, visit_null, visit_stuck, leave_done, leave_step}
use Rattle.descent.proofs.+descent.Goals as goal

pub alternative-returns-then-begins : goal.alternative-returns-then-begins
alternative-returns-then-begins t c = (
  below-more _ _ _ (omega arith) c.enter.ensures.0,
  λ e tag k rank z en. first-step e c.args.table.now c.args.tokens.now c.args.root c.args.node c.args.falling k rank z en tag
      (sym c.begins.ensures ∙ c.if-begins.true) c.enter.result (c.enter.ensures.1 e),
)

pub alternative-returns : goal.alternative-returns
alternative-returns t c = (
  below-more _ _ _ (omega arith) c.enter-2.ensures.0,
  λ e tag k rank z en. second-step e c.args.table.now c.args.tokens.now c.args.root c.args.node c.args.falling k rank z en tag
      (sym c.begins.ensures ∙ c.if-begins.false) c.enter-2.result (c.enter-2.ensures.1 e),
)

pub enter-returns-in-2 : goal.enter-returns-in-2
enter-returns-in-2 t c = (c.token.ensures.0, λ e k rank z en. c.token.ensures.1 e c.in-2.is k rank z en)

pub enter-returns-in-3 : goal.enter-returns-in-3
enter-returns-in-3 t c = (c.sequence.ensures.0, λ e k rank z en. c.sequence.ensures.1 e c.in-3.is k rank z en)

pub enter-returns-in-4 : goal.enter-returns-in-4
enter-returns-in-4 t c = (c.alternative.ensures.0, λ e k rank z en. c.alternative.ensures.1 e c.in-4.is k rank z en)

pub enter-returns-in-5 : goal.enter-returns-in-5
enter-returns-in-5 t c = (c.fixed_point.ensures.0, λ e k rank z en. c.fixed_point.ensures.1 e c.in-5.is k rank z en)

pub enter-returns-in-6 : goal.enter-returns-in-6
enter-returns-in-6 t c = (c.variable.ensures.0, λ e k rank z en. c.variable.ensures.1 e c.in-6.is k rank z en)

pub enter-returns-in-7 : goal.enter-returns-in-7
enter-returns-in-7 t c = (c.repetition.ensures.0, λ e k rank z en. c.repetition.ensures.1 e c.in-7.is k rank z en)

pub enter-returns-in_default : goal.enter-returns-in_default
enter-returns-in_default t c = (
  below_stuck _ _ _ c.stuck.ensures,
  λ e k rank z en. bare_step e c.args.table.now c.args.tokens.now c.args.root c.args.node c.args.falling k rank z en
      (search rules) (search rules) (search rules) (search rules) (search rules) (search rules),
)

pub fixed_point-returns : goal.fixed_point-returns
fixed_point-returns t c = (
  below-more _ _ _ (omega arith) c.enter.ensures.0,
  λ e tag k rank z en. body-step e c.args.table.now c.args.tokens.now c.args.root c.args.node c.args.falling k rank z en tag c.enter.result (c.enter.ensures.1 e),
)

pub leave-returns-then-up-root : goal.leave-returns-then-up-root
leave-returns-then-up-root t c = (
  inr (omega arith),
  λ e k rank z en. leave_done e c.args.table.now c.args.tokens.now c.args.root c.args.node c.args.falling k rank z en c.if-up-root.true,
)

pub leave-returns : goal.leave-returns
leave-returns t c = (
  below-more _ _ _ (omega arith) c.visit.ensures.0,
  λ e k rank z en. leave_step e c.args.table.now c.args.tokens.now c.args.root c.args.node c.args.falling k rank z en
      (λ l. omega (arith, l, c.if-up-root.false)) c.visit.result (c.visit.ensures.1 e),
)

pub repetition-returns : goal.repetition-returns
repetition-returns t c = (
  below-more _ _ _ (omega arith) c.enter.ensures.0,
  λ e tag k rank z en. part-step e c.args.table.now c.args.tokens.now c.args.root c.args.node c.args.falling k rank z en tag c.enter.result (c.enter.ensures.1 e),
)

pub sequence-returns : goal.sequence-returns
sequence-returns t c = (
  below-more _ _ _ (omega arith) c.enter.ensures.0,
  λ e tag k rank z en. sequence_step e c.args.table.now c.args.tokens.now c.args.root c.args.node c.args.falling k rank z en tag c.enter.result (c.enter.ensures.1 e),
)

pub token-returns : goal.token-returns
token-returns t c = (
  below-more _ _ _ (omega arith) c.leave.ensures.0,
  λ e tag k rank z en. token_step e c.args.table.now c.args.tokens.now c.args.root c.args.node c.args.falling k rank z en tag c.leave.result (c.leave.ensures.1 e),
)

pub variable-returns-then-answer-eq1 : goal.variable-returns-then-answer-eq1
variable-returns-then-answer-eq1 t c = (
  inl c.if-answer-eq1.true,
  λ e tag k rank z en. variable_stuck e c.args.table.now c.args.tokens.now c.args.root c.args.node c.args.falling k rank z en tag c.enter-answer.result
      c.if-answer-eq1.true (c.enter-answer.ensures.1 e),
)

pub variable-returns : goal.variable-returns
variable-returns t c = (
  below-more _ _ _ (omega (arith, below_even _ _ c.enter-answer.ensures.0 c.if-answer-eq1.false)) c.leave.ensures.0,
  λ e tag k rank z en. variable_step e c.args.table.now c.args.tokens.now c.args.root c.args.node c.args.falling k rank z en tag c.enter-answer.result
      c.if-answer-eq1.false (c.enter-answer.ensures.1 e) c.leave.result (c.leave.ensures.1 e),
)

pub visit-returns-then-begins : goal.visit-returns-then-begins
visit-returns-then-begins t c = (
  below-more _ _ _ (omega arith) c.enter.ensures.0,
  λ e k rank z en. visit_begun e c.args.table.now c.args.tokens.now c.args.root c.args.node c.args.falling k rank z en
      (sym c.begins.ensures ∙ c.if-begins.true) c.enter.result (c.enter.ensures.1 e),
)

pub visit-returns-then-table-node-eq1 : goal.visit-returns-then-table-node-eq1
visit-returns-then-table-node-eq1 t c = (
  c.leave.ensures.0,
  λ e k rank z en. visit_null e c.args.table.now c.args.tokens.now c.args.root c.args.node c.args.falling k rank z en
      (sym c.begins.ensures ∙ c.if-begins.false) c.if-table-node-eq1.true c.leave.result (c.leave.ensures.1 e),
)

pub visit-returns : goal.visit-returns
visit-returns t c = (
  below_stuck _ _ _ c.stuck.ensures,
  λ e k rank z en. visit_stuck e c.args.table.now c.args.tokens.now c.args.root c.args.node c.args.falling k rank z en
      (sym c.begins.ensures ∙ c.if-begins.false) c.if-table-node-eq1.false c.stuck.result c.stuck.ensures,
)
