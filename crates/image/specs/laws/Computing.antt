-- One name that opens every definition that is computed with, of this crate and of those below it, for theorems that compute.
use Rattle.image.specs.Fusion.{fused_from, fused}
use mathlib.Core.List.{flat_map}
use Rattle.normal_form.specs.Productions.{production_of}
use Rattle.image.specs.Numbering.{reached, renumbered, numbered}
use Rattle.image.specs.Image.{plain_image, image_of, flag, image_numbers, image_bytes}
use Rattle.image.specs.ImageReading.{image_field, read_flag, read_list, read_position, read_production, read_row, image_end, read_image}
use Rattle.image.specs.Answer.{numbers_of}
use Rattle.image.specs.Check.{after_types, after_rules, after_reading, after_work, check, check_answer, work_after}
use Rattle.image.specs.Write.{fitted, after_checking, write, write_answer, image_after, written_part}
use Rattle.normal_form.specs.laws.Computing.{computing_normal_form}
use Rattle.lexer.specs.laws.Computing.{computing_lexer}

unfoldable pub computing_image : Unit {0}
unfolding production_of fused_from fused flat_map reached renumbered numbered plain_image image_of flag image_numbers image_bytes image_field read_flag read_list read_position read_production read_row image_end read_image after_types after_rules after_reading after_work check check_answer numbers_of work_after fitted after_checking write write_answer image_after written_part computing_normal_form computing_lexer
computing_image = tt
