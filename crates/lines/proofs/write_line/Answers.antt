-- `lines::write_line` meets its contract: a call for each kind of line, which has room.
use native.Mathlib.Omega.{arith}
use borrow.Author.Rules.{rules}
use Rattle.lines.proofs.laws.LineLaws.{one_number, two_numbers}
use Rattle.lines.proofs.Writing.{line_put, sheet_line, text_line, accepted_line}
use Rattle.lines.proofs.write_line.Goals as goal

pub put_line-requires : goal.put_line-requires
put_line-requires c =
    let h = c.in-Sheet in
    omega (arith, two_numbers c.from.result h.place (rw c.from.ensures (search rules)) (search rules))

pub put_line-requires-in-Text : goal.put_line-requires-in-Text
put_line-requires-in-Text c =
    let h = c.in-Text in
    omega (arith, two_numbers c.from-in-Text.result h.place (rw c.from-in-Text.ensures (search rules)) (search rules))

pub put_line-requires-in-Accepted : goal.put_line-requires-in-Accepted
put_line-requires-in-Accepted c = let h = c.in-Accepted in omega (arith, one_number h.count (search rules))

pub returns-in-Sheet : goal.returns-in-Sheet
returns-in-Sheet c =
    let z = c.args in
    let h = c.in-Sheet in
    let put = c.put_line.ensures in
    line_put z.line _ z.buffer.now (sheet_line z.line h.number h.place h.is c.from.ensures) put.0 put.1

pub returns-in-Text : goal.returns-in-Text
returns-in-Text c =
    let z = c.args in
    let h = c.in-Text in
    let put = c.put_line-in-Text.ensures in
    line_put z.line _ z.buffer.now (text_line z.line h.number h.place h.is c.from-in-Text.ensures) put.0 put.1

pub returns-in-Accepted : goal.returns-in-Accepted
returns-in-Accepted c =
    let z = c.args in
    let h = c.in-Accepted in
    let put = c.put_line-in-Accepted.ensures in
    line_put z.line _ z.buffer.now (accepted_line z.line h.count h.is) put.0 put.1
