use borrow.Author.Rules.{rules}
use mathlib.Core.Path.{◌≡◌, sym, ap, ◌∙◌}
use mathlib.Core.List.{List}
use Prim.Native.Nat.{ℕ, suc, ◌≤◌}
use native.Mathlib.Omega.{arith}
use native.Mathlib.Numerals.{add-one}
use lib.Bits.{bit_and}
use lib.ListN.{get_or, length, take}
use lib.Seq.{length-take-le}
use Rattle.basics.specs.Meeting.{number_of}
use Rattle.table_builder.proofs.Meeting.{place_most}
use Rattle.table_builder.proofs.Filling.{one_entry}
use Rattle.table_builder.proofs.Rows.fill_row.Goals as goal
use Rattle.table_builder.proofs.Rows.fill_row.Goals.{then-kept-before, else-kept-before}

-- The place of a set among the first is no more than their number.
place_few : (sets : List ℕ) (count place set : ℕ) → count ≤ 256 → count ≤ length sets → place ≡ number_of (take count sets) set → place ≤ 256
place_few sets count place set few long e = omega (arith, e, place_most (take count sets) set, length-take-le count sets long)

pub overflow_add-number : goal.overflow_add-number
overflow_add-number c = omega (arith, place_few _ _ _ _ (search rules) (search rules) c.place_of.ensures)

pub overflow_cast-number : goal.overflow_cast-number
overflow_cast-number c = omega (arith, place_few _ _ _ _ (search rules) (search rules) c.place_of.ensures)

pub loop-byte-preserved : goal.loop-byte-preserved
loop-byte-preserved c =
    let l = c.loop-byte in
    let a = c.args in
    let sets = take a.self.now.count a.self.now.sets in
    let row : ℕ → ℕ = λ k. suc (number_of sets k) in
    let next = c.if-kept-before in
    let here : (next.before ≡ bit_and a.held (get_or a.tables.now l.byte 0)) × (next.number ≡ suc (number_of sets next.before)) =
    elim next.branch [
      | then-kept-before w ↦ (w.before-is, w.number-is ∙ add-one w.place_of.result ∙ ap suc w.place_of.ensures ∙ ap row (sym w.before-is))
      | else-kept-before w ↦ (w.before-is ∙ sym w.if-kept-before.false, w.number-is ∙ l.invariant.0 ∙ ap row (sym w.before-is))
    ] in (
      here.1,
      one_entry sets a.tables.now a.held a.table.now l.table a.at l.byte next.number c.requires.1 c.loop-byte-test.true
          (here.1 ∙ ap row here.0) l.invariant.1,
    )
