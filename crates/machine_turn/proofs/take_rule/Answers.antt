-- `take_rule` meets its contract: one law of `Answers` for each answer.
use Rattle.std.specs.Prelude.{Some}
use mathlib.Core.Path.{◌≡◌, sym, ◌∙◌}
use mathlib.Core.List.{List}
use Prim.Native.Nat.{ℕ, ◌+◌, ◌<◌}
use native.Mathlib.Omega.{arith}
use lib.ListN.{length, get_or, drop}
use lib.Seq.{get_or-drop}
use Rattle.normal_form.specs.Productions.{Row}
use Rattle.image_reader.specs.Tables.{EntryTail}
use Rattle.machine_turn.specs.Stack.{Ready}
use Rattle.machine_turn.specs.Steps.{taker}
use Rattle.machine_turn.specs.declared.Taker.{Taker}
use Rattle.machine_turn.proofs.laws.StackLaws.{ready_entries}
use Rattle.machine_turn.proofs.laws.TakingLaws.{found_taker}
use Rattle.machine_turn.proofs.Answers.{no_taker, took}
use Rattle.machine_turn.proofs.take_rule.Goals as goal

-- What is known once a taker is found.
known : (image tables productions : List ℕ) (empty : ℕ) (rows : List Row) (n : ℕ) (stack : List ℕ) (depth first rule : ℕ) (t : Taker)
    → rule < 32 → Ready image (drop 384 tables) productions empty rows n stack depth first
    → taker productions empty stack depth first rule ≡ Some t
    → (t.below < length stack) × (t.nonterminal < 64)
    × ((tail : List ℕ) × EntryTail image (get_or tables (384 + t.nonterminal) 0) n t.entry tail)
known image tables productions empty rows n stack depth first rule t h ready e =
    rw (← get_or-drop 384 tables t.nonterminal 0)
    (found_taker image (drop 384 tables) productions _ _ _ stack _ _ _ h ready _ e)

pub find_taker-found-requires : goal.find_taker-found-requires
find_taker-found-requires c = let entries = ready_entries c.requires.1.2 in (c.requires.0, entries.0, entries.1)

pub returns-in_default : goal.returns-in_default
returns-in_default c = no_taker _ _ _ _ _ _ _ _ (sym c.find_taker-found.ensures ∙ c.in_default.is)

pub overflow_add-start : goal.overflow_add-start
overflow_add-start c =
    let w = known c.args.image.now c.args.tables.now _ _ _ _ _ _ _ _ _ c.requires.0 c.requires.1.2 (sym c.find_taker-found.ensures ∙ c.in-Some.is) in omega (arith, w.1)

pub offset_bounds-tables-n : goal.offset_bounds-tables-n
offset_bounds-tables-n c =
    let w = known c.args.image.now c.args.tables.now _ _ _ _ _ _ _ _ _ c.requires.0 c.requires.1.2 (sym c.find_taker-found.ensures ∙ c.in-Some.is) in omega (arith, w.1)

pub bounds-tables-n : goal.bounds-tables-n
bounds-tables-n c =
    let w = known c.args.image.now c.args.tables.now _ _ _ _ _ _ _ _ _ c.requires.0 c.requires.1.2 (sym c.find_taker-found.ensures ∙ c.in-Some.is) in omega (arith, w.1)

pub replace_taker-requires : goal.replace_taker-requires
replace_taker-requires c =
    let w = known c.args.image.now c.args.tables.now _ _ _ _ _ _ _ _ _ c.requires.0 c.requires.1.2 (sym c.find_taker-found.ensures ∙ c.in-Some.is) in
    (w.0, (c.requires.1.1, w.2.0, w.2.1))

pub returns : goal.returns
returns c =
    took _ _ _ _ _ _ _ _ _ _ (sym c.find_taker-found.ensures ∙ c.in-Some.is) (get_or-drop 384 c.args.tables.now c.in-Some.taker.nonterminal 0) _ _
    c.replace_taker.ensures
