-- The flap paper's own typing, which decided before request [8]. Nothing rests on it but what that request claims of the sheets that passed.
use Rattle.std.specs.Prelude.{[]}
use Rattle.sheet.specs.Expression.{Expression}
use Rattle.types.specs.Types.{LanguageType, flap_sequence_type, Typed}

-- The expression has a type with the flap paper's operation for the sequence.
abbrev pub HadType : Expression → Type 0
HadType e = (a : LanguageType) × Typed flap_sequence_type [] e a
