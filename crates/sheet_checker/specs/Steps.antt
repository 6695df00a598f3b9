-- What is known of the columns between the questions: they are those of a sheet that was read, and in the end those of a sheet that
-- passed. How the columns are made is not said here.
use Rattle.std.specs.Prelude.{◌≡◌, List, ℕ, ◌≤◌}
use Rattle.std.proofs.Math.Option.{none}
use Rattle.sheet.specs.Sheet.{Sheet}
use Rattle.sheet.specs.WellFormed.{WithinLimits}
use Rattle.sheet.specs.Reading.{Contents}
use Rattle.columns.specs.Holds.{RulesOf, NodesOf}
use Rattle.columns.specs.declared.RuleColumns.{RuleColumns}
use Rattle.columns.specs.declared.NodeColumns.{NodeColumns}
use Rattle.types.specs.LeastTypes.{least_types}
use Rattle.types.specs.Nodes.{nodes}
use Rattle.types.specs.Questions.{type_fault}
use Rattle.columns.specs.HeldNodes.{held_nodes, held_types}
use Rattle.lexer.specs.Positions.{empty_match}
use Rattle.sheet_checker.specs.declared.CheckedSheet.{CheckedSheet}

-- The columns hold a sheet that was read, with its places, and that keeps the limits.
pub record SheetOf (c : Contents) (rules : RuleColumns) (nodes : NodeColumns) : Type 0 where
  pub rules_held : RulesOf rules c.sheet.rules c.action_places
  pub nodes_held : NodesOf nodes c.sheet.expression c.node_places
  pub limits : WithinLimits c.sheet

-- The columns hold a sheet that passed, with the least types of its nodes.
pub record PassedParts (s : Sheet) (p : CheckedSheet) : Type 0 where
  pub places : List ℕ
  pub limits : WithinLimits s
  pub rules_held : RulesOf p.rules s.rules places
  pub links_most : p.links.count ≤ 64
  pub linked : held_nodes p.links ≡ nodes s.expression
  pub typed : held_types p.links.count p.types ≡ least_types s.expression
  pub no_empty : empty_match s.rules 0 ≡ none
  pub no_fault : type_fault s.expression ≡ none
