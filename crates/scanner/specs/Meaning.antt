-- What the answers of the scanner's functions mean in the terms of the walk. The walk itself is defined in lexer.
use Rattle.std.specs.Prelude.{◌≡◌, List, [], ◌∷◌, ℕ, suc, ◌%◌, ◌≤◌, length, get_or, drop, Option, Some, None}
use Rattle.std.proofs.Math.Option as maybe
use Rattle.std.proofs.Math.Option.{none, some}
use Rattle.basics.specs.Bits.{bit}
use Rattle.lexer.specs.Positions.{Position}
use Rattle.lexer.specs.Match.{Match, no_match, matched}
use Rattle.lexer.specs.Walk.{keep, follows, ended_rule}
use Rattle.lexer.specs.Alive.{Told, ends_with, in_vain}
use Rattle.lexer.specs.laws.PositionBounds.{NeverFalling}
use Rattle.scanner.specs.ClassTable.{ClassTable}
use Rattle.scanner.specs.declared.Match as code
use Rattle.scanner.specs.declared.WalkEnd.{WalkEnd}
use Rattle.scanner.specs.declared.WalkEnd.TheVariants as end
use Rattle.scanner.specs.declared.AfterByte.{AfterByte}

-- The match that an answer of the longest-match function stands for.
unfoldable pub match_of : Option code.Match → Match
match_of None = no_match
match_of (Some m) = matched m.rule m.length

-- What an answer of the function that walks once tells.
unfoldable pub told_of : WalkEnd → Told
told_of end.Nothing = ends_with no_match
told_of (end.Rule rule n) = ends_with (matched rule n)
told_of (end.InVain n) = in_vain n

-- The rule of which a match ends with a byte, if there is one.
unfoldable pub rule_of : Option ℕ → maybe.Option ℕ
rule_of None = none
rule_of (Some rule) = some rule

-- The state is what the byte leads to from the held positions: "a byte keeps the held positions whose class has it; a kept
-- position that is last ends a match of its rule there; then the follow sets of the kept ones, together, are held".
pub record LeadsTo (ps : List Position) (held b : ℕ) (s : AfterByte) : Type 0 where
  pub next_held : s.held ≡ follows ps 0 (keep ps 0 held b)
  pub rule_ended : rule_of s.ended ≡ ended_rule ps 0 (keep ps 0 held b)

-- The tables' words from 256 on are the positions' follow sets, those from 320 on their rules, and the set of last ones has theirs:
-- from position i on.
abbrev pub HeldAt : List ℕ → ℕ → ℕ → List Position → Type 0
HeldAt tables last i [] = Unit
HeldAt tables last i (p ∷ ps) =
    (get_or (drop 256 tables) i 0 ≡ p.follow) × (get_or (drop 320 tables) i 0 % 256 ≡ p.rule) × (bit last i ≡ p.last)
    × HeldAt tables last (suc i) ps

-- What the scanner relies on: the tables' first 256 words are the class table, the others hold the positions, and "rules of positions ..
-- never falling".
pub record Prepared (ps : List Position) (last : ℕ) (tables : List ℕ) : Type 0 where
  pub few : length ps ≤ 64
  pub own_classes : ClassTable ps tables
  pub held : HeldAt tables last 0 ps
  pub never_falling : NeverFalling 0 ps
