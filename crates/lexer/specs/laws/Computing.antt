-- One name that opens every definition of this crate and of those below it, for theorems that compute.
use Rattle.lexer.specs.RuleOrder.{is_word, word_rule, words_first, image_sheet}
use Rattle.lexer.specs.Positions.{nullable, first, last, follow, part_positions, positions_from, positions, first_from, first_positions, empty_match}
use Rattle.lexer.specs.Match.{longer}
use Rattle.lexer.specs.Walk.{has_byte, keep, follows, lower, ended_rule, walk, longest_match}
use Rattle.lexer.specs.SetWalk.{steps, set_walk, members_from, members}
use Rattle.lexer.specs.Table.{bytes_from, held_in, next_sets, table_rows, table_entries, rule_or_none, winner_in, table_winners, winning, row_walk, match_by_rows}
use Rattle.basics.specs.Lists.{written_over}
use Rattle.sheet.specs.laws.Computing.{computing_sheet}

unfoldable pub computing_lexer : Unit {0}
unfolding is_word word_rule words_first image_sheet nullable first last follow part_positions positions_from positions first_from first_positions empty_match longer has_byte keep follows lower ended_rule walk longest_match steps set_walk members_from members bytes_from held_in next_sets table_rows table_entries rule_or_none winner_in table_winners written_over winning row_walk match_by_rows computing_sheet
computing_lexer = tt
