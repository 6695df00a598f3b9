-- `read_productions` meets its contract. The loop's invariant: the productions so far were read, and the table has their entries.
use mathlib.Core.List.{List}
use Prim.Native.Nat.{suc, ◌+◌, ◌*◌, ◌≤◌}
use Rattle.normal_form.specs.Productions.{Production}
use Rattle.image_reader.specs.Answers.{production_in, productions_in}
use Rattle.image_reader.proofs.Productions.{Entering}
use Rattle.image_reader.proofs.Turns.{Turns}
use Rattle.image_reader.proofs.read_productions.Given as goal

abbrev pub invariant-loop-i : goal.invariant-loop-i
invariant-loop-i l =
    (l.start + 2 ≤ l.next) × (l.next ≤ l.start + 2 + 34 * l.i)
    × ((ps : List Production)
    × Turns (production_in l.bytes l.bounds) (λ least p. suc p.head) (productions_in l.bytes l.bounds l.fn.size.value l.fn.size.at) l.fn.size.value l.i
    l.least l.next ps
    × Entering l.bytes l.start l.bounds.nonterminals l.base l.initial.table l.table l.least ps)
