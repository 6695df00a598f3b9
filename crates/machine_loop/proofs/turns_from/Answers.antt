-- `turns_from` meets its contract: without a scanner's table, turns by the copy leave what those by the image itself would.
use Rattle.machine_loop.proofs.ByRows.{without_rows, same_going, same_lead}
use Rattle.machine_loop.proofs.turns_from.Goals as goal

pub returns-in-None : goal.returns-in-None
returns-in-None c =
    let a = c.args in
    let m = a.machine.now in
    let e = c.without_rows-by_sets.ensures in
    λ i whole to w g ahead.
    same_lead m _ e i a.text.now whole a.from.place a.matches.now to a.stop c.run_turns-in-None.new.stack c.run_turns-in-None.result
    (c.run_turns-in-None.ensures i whole to (without_rows m _ e w) (same_going m _ e i a.text.now whole g) ahead)
