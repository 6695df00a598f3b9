-- `descent::descend` meets its contract.
use Rattle.std.proofs.Common.{sym, ◌∙◌}
use Rattle.descent.proofs.Visits.{start_begun, start_null, start_stuck}
use Rattle.descent.proofs.descend.Goals as goal

pub returns-then-begins : goal.returns-then-begins
returns-then-begins c e h t = start_begun e c.args.table.now c.args.tokens.now h t c.requires.1 c.args.count c.requires.0
    (sym c.begins.ensures ∙ c.if-begins.true) c.enter.result (c.enter.ensures.1 e)

pub returns-then-table-eq1 : goal.returns-then-table-eq1
returns-then-table-eq1 c e h t = start_null e c.args.table.now c.args.tokens.now h t c.requires.1 c.args.count c.requires.0
    (sym c.begins.ensures ∙ c.if-begins.false) c.if-table-eq1.true

pub returns : goal.returns
returns c e h t = start_stuck e c.args.table.now c.args.tokens.now h t c.requires.1 c.args.count c.requires.0
    (sym c.begins.ensures ∙ c.if-begins.false) c.if-table-eq1.false c.stuck.result c.stuck.ensures
