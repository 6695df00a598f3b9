-- Columns that checking made and that hold an accepted sheet make a grammar that is the sheet's.
use Rattle.columns.specs.declared.RuleColumns.{RuleColumns}
use Rattle.columns.specs.declared.NodeLinks.{NodeLinks}
use Rattle.columns.specs.declared.TypeColumns.{TypeColumns}
use Rattle.node_numbering.specs.declared.Grammar.{Grammar}

-- The columns of a grammar from those of the rules, the nodes and the types.
abbrev pub grammar_from : RuleColumns → NodeLinks → TypeColumns → Grammar
grammar_from rules links types = record {
  rules = rules.count;
  action = rules.action;
  tag = links.tag;
  link = links.link;
  first = types.first;
  null = types.null;
}
