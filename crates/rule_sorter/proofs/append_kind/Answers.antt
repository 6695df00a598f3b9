use borrow.Author.Rules.{rules}
use native.Mathlib.Omega.{arith}
use mathlib.Core.Path.{refl}
use mathlib.Core.Bool.{beq}
use mathlib.Core.List.{List}
use Prim.Native.Nat.{ℕ, ◌<◌}
use lib.ListN.{length}
use Rattle.sheet.specs.Sheet.{Rule}
use Rattle.columns.specs.Holds.{RulesOf}
use Rattle.rule_sorter.specs.Kinds.{kind_before}
use Rattle.rule_sorter.proofs.Columns.{appendable}
use Rattle.rule_sorter.proofs.Parts.{kind_test}
use Rattle.rule_sorter.proofs.Rules.{rules-counted, Long, sorting_start, sorting_end, class_fits, rule_items}
use Rattle.rule_sorter.proofs.Rules.{Found, actions_next, tags_next, lows_next, highs_next, sorting_next}
use Rattle.rule_sorter.proofs.append_kind.Goals as goal
use Rattle.rule_sorter.proofs.append_kind.Goals.{After-rule_end-end}

-- What a turn finds of it.
abbrev FoundAt : After-rule_end-end → List Rule → Type 0
FoundAt c held =
    let l = c.loop-k in
    let z = c.args in
    Found z.rules (record {
      count = l.count;
      action = l.action;
      place = z.sorted.place;
      items = l.items;
      tag = l.tag;
      classes = l.classes;
      low = l.low;
      high = l.high;
    }) l.item l.class z.words held l.k c.rule_end-end.result (beq z.words c.rule_end-end.result.word)

found_at : (c : After-rule_end-end) (held : List Rule) (places moved : List ℕ) → let z = c.args in
    RulesOf z.rules held places → RulesOf z.sorted (kind_before z.words held) moved → FoundAt c held
found_at c held places moved h g =
    let b : c.loop-k.k < length held = omega (arith, c.loop-k-test.true, rules-counted c.args.rules held places h) in
    let s = c.loop-k.invariant held places moved h g in record {
      below = b;
      sorting = s;
      end_is = c.rule_end-end.ensures _ (rule_items b s);
      asked = kind_test c.args.words c.rule_end-end.result.word;
    }

-- The same for the rules that the caller knows of.
found : (c : After-rule_end-end) → FoundAt c c.requires.0
found c =
    let w = c.requires in
    found_at c w.0 w.1 w.2 w.3 w.4

pub loop-k-init : goal.loop-k-init
loop-k-init c =
    let z = c.args in
    let l : Long z.sorted = record {
      action_long = search rules;
      tag_long = search rules;
      low_long = search rules;
      high_long = search rules;
    } in
    λ held places moved h g. sorting_start z.rules z.sorted z.words held places moved h g l

pub rule_end-end-requires : goal.rule_end-end-requires
rule_end-end-requires c =
    let w = c.requires in
    let b : c.loop-k.k < length w.0 = omega (arith, c.loop-k-test.true, rules-counted c.args.rules w.0 w.1 w.3) in
    let s = c.loop-k.invariant w.0 w.1 w.2 w.3 w.4 in
    (class_fits b s, (_, rule_items b s))

pub append_part-count-requires : goal.append_part-count-requires
append_part-count-requires c = appendable (actions_next (found (goal.at.append_part-count-requires c).After-rule_end-end))

pub append_part-items-requires : goal.append_part-items-requires
append_part-items-requires c = appendable (tags_next (found (goal.at.append_part-items-requires c).After-rule_end-end))

pub append_part-requires : goal.append_part-requires
append_part-requires c = appendable (lows_next (found (goal.at.append_part-requires c).After-rule_end-end))

pub append_part-classes-requires : goal.append_part-classes-requires
append_part-classes-requires c = appendable (highs_next (found (goal.at.append_part-classes-requires c).After-rule_end-end))

pub loop-k-preserved : goal.loop-k-preserved
loop-k-preserved c =
    let x = c.append_part-count in
    let y = c.append_part-items in
    let z = c.append_part in
    let w = c.append_part-classes in
    λ held places moved p q.
    sorting_next (found_at (goal.at.loop-k-preserved c).After-rule_end-end held places moved p q) z.result
    (x.ensures.0, x.ensures.1, x.auto.to) (y.ensures.0, y.ensures.1, y.auto.to)
    (z.ensures.0, z.ensures.1, z.auto.to) (w.ensures.0, w.ensures.1, w.auto.to)

pub returns : goal.returns
returns c =
    let l = c.loop-k in
    let z = c.args in (
      refl,
      λ held places moved h g. (
        _,
        sorting_end (omega (arith, c.loop-k-test.false, rules-counted z.rules held places h)) (l.invariant held places moved h g),
      ),
    )
