-- One name that opens every definition that is computed with, of this crate and of those below it, for theorems that compute.
use Rattle.sheet.specs.Expression.{size}
use Rattle.sheet.specs.Regex.{regex_nodes, class_count}
use Rattle.sheet.specs.Spelling.{spell}
use Rattle.sheet.specs.Field.{between, field_of, read_field, read_many}
use Rattle.sheet.specs.Items.{regex_parts, item_classes, regex_before, regexes, part_depths, expression_before, expressions}
use Rattle.sheet.specs.Reading.{sheet_field, class_after, regex_item, regex_items, less_rule, read_rule, expression_item, expression_nodes, contents, at_end, read_sheet}
use Rattle.number.specs.laws.Computing.{computing_number}
use Rattle.basics.specs.laws.Computing.{computing_laws}

unfoldable pub computing_sheet : Unit {0}
unfolding size regex_nodes class_count spell between field_of read_field read_many regex_parts item_classes regex_before regexes part_depths expression_before expressions sheet_field class_after regex_item regex_items less_rule read_rule expression_item expression_nodes contents at_end read_sheet computing_number computing_laws
computing_sheet = tt
