-- Columns that checking made and that hold an accepted sheet make a grammar that is the sheet's.
use Rattle.std.specs.Prelude.{◌≡◌, List, ℕ, ◌<◌}
use Rattle.std.proofs.Common.{sym, ap, ◌∙◌, arith, zero-add}
use Rattle.std.proofs.Math.Option.{none}
use Rattle.std.proofs.lemmas.List.{length-map}
use Rattle.basics.specs.Bits.{bit}
use Rattle.sheet.specs.Expression.{Expression, size}
use Rattle.sheet.specs.Sheet.{Sheet}
use Rattle.sheet.specs.WellFormed.{WithinLimits}
use Rattle.columns.specs.Holds.{RulesOf}
use Rattle.columns.specs.declared.RuleColumns.{RuleColumns}
use Rattle.types.specs.LeastTypes.{type_of, least_types}
use Rattle.types.specs.Nodes.{nodes}
use Rattle.types.specs.Questions.{type_fault}
use Rattle.types.specs.Types.{LanguageType, bottom_type}
use Rattle.columns.specs.HeldNodes.{held_nodes, held_type, held_types}
use Rattle.columns.proofs.laws.TabulateLaws.{tabulate-at}
use Rattle.columns.specs.declared.NodeLinks.{NodeLinks}
use Rattle.columns.specs.declared.TypeColumns.{TypeColumns}
use Rattle.production_finder.proofs.laws.ColumnLaws.{count_is_size, columns_of}
use Rattle.node_numbering.specs.Grammar.{GrammarOf}
use Rattle.node_numbering.specs.laws.GrammarLaws.{grammar_from}

null_here : (links : NodeLinks) (types : TypeColumns) (e : Expression) → held_nodes links ≡ nodes e
    → held_types links.count types ≡ least_types e
    → (n : ℕ) → n < size e → bit types.null n ≡ (type_of (least_types e) n).null
unfolding held_types held_type
null_here links types e held typed n l =
    let c = count_is_size links types e held typed in
    sym (ap (λ (a : LanguageType). a.null)
    (tabulate-at (held_type types.null types.first types.flast) bottom_type 0 links.count n (omega arith)
    ∙ ap (held_type types.null types.first types.flast) (zero-add n)))
    ∙ ap (λ l. (type_of l n).null) typed

pub grammar_of : (s : Sheet) (rules : RuleColumns) (places : List ℕ) (links : NodeLinks) (types : TypeColumns) → WithinLimits s
    → RulesOf rules s.rules places → held_nodes links ≡ nodes s.expression → held_types links.count types ≡ least_types s.expression
    → type_fault s.expression ≡ none → GrammarOf (grammar_from rules links types) s.rules s.expression
grammar_of s rules places links types w held_rules held typed right = record {
  rule_count = held_rules.rules ∙ length-map s.rules (λ r. r.action);
  rules_most = w.rules_most;
  actions_held = held_rules.actions_held;
  columns = columns_of links types s.expression held typed s.tokens w.tokens_most w.closed w.nodes_most right;
  null_held = null_here links types s.expression held typed;
}
