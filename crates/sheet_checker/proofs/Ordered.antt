-- The columns of a sheet that passed, with its rules in the image's order, are those of the sheet in that order. How rules are put into it is
-- not said here.
use Rattle.sheet.specs.Sheet.{Sheet}
use Rattle.columns.specs.Holds.{RulesOf}
use Rattle.columns.specs.declared.RuleColumns.{RuleColumns}
use Rattle.lexer.specs.RuleOrder.{words_first, image_sheet}
use Rattle.lexer.proofs.laws.OrderedMatches.{ordered_empty_match, ordered_limits}
use Rattle.sheet_checker.specs.Steps.{PassedParts}
use Rattle.sheet_checker.specs.declared.CheckedSheet.{CheckedSheet}

module _ (s : Sheet) (k : CheckedSheet) (h : PassedParts s k) where
  -- With the rules in the image's order, the sheet in that order has passed.
  pub ordered_parts : (rules : RuleColumns) → RulesOf rules (words_first s.rules) h.places
      → PassedParts (image_sheet s) (record { rules = rules; links = k.links; types = k.types })
  unfolding image_sheet
  ordered_parts rules held = record {
    places = h.places;
    limits = ordered_limits s h.limits;
    rules_held = held;
    links_most = h.links_most;
    linked = h.linked;
    typed = h.typed;
    no_empty = ordered_empty_match s.rules h.no_empty;
    no_fault = h.no_fault;
  }
