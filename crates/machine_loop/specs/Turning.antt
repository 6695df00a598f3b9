-- Turns from a state on, by matches that were found ahead and then by walks that are made once: what they leave, and what was charged for
-- walks in vain. What a turn does is said by machine_turn, what walks cost by machine's Work.
use Rattle.std.specs.Prelude.{◌≡◌, List, [], ◌∷◌, ℕ, ◌+◌, ◌-◌, ◌≤◌, ◌<◌, length, drop, Option, Some, None, Result, Ok, Err}
use Rattle.lexer.specs.Match.{matched}
use Rattle.lexer.specs.Alive.{Told, ends_with, in_vain, vain_bytes}
use Rattle.scanner.specs.Meaning.{match_of}
use Rattle.scanner.specs.declared.Match.{Match}
use Rattle.image.specs.Image.{Image}
use Rattle.machine_loop.specs.Prepared.{tables_in}
use Rattle.machine_loop.specs.declared.Machine.{Machine}
use Rattle.machine.specs.Trace.{Ended, answer_of, match_at}
use Rattle.machine.specs.Work.{charge, budget, TurnsTo}
use Rattle.machine_turn.specs.Steps.{answer_held}
use Rattle.machine_turn.specs.laws.Going.{Going}
use Rattle.machine_turn.specs.declared.State.{State}
use Rattle.machine_turn.specs.declared.RunAnswer.{RunAnswer}
use Rattle.alive_scanner.specs.Blocks.{HeldBefore}
use Rattle.machine_loop.specs.declared.Turns.{Turns}
use Rattle.machine_loop.specs.declared.Turns.TheVariants.{Done, Reached, InVain}

-- What is seen by a walk: the match that it ends with, or how far it went in vain.
abbrev pub SeenBy : Result (Option Match) ℕ → Told → Type 0
SeenBy (Ok found) (ends_with m) = match_of found ≡ m
SeenBy (Ok found) (in_vain n) = ⊥
SeenBy (Err k) (ends_with m) = ⊥
SeenBy (Err k) (in_vain n) = k ≡ n

-- What is seen at a place, given the words of matches that were found ahead from there on: the longest match, by the first word, or by a walk
-- that ends with it; or, where there is no word, how many bytes the walk went over in vain.
abbrev pub SeenAt : Image → List ℕ → ℕ → List ℕ → Result (Option Match) ℕ → Type 0
SeenAt i text p words (Ok found) =
    (match_of found ≡ match_at i text p) × (words ≡ [] → vain_bytes i.positions i.first (drop p text) ≡ 0)
SeenAt i text p words (Err n) = (n ≡ 0 → ⊥) × (words ≡ []) × (n ≡ vain_bytes i.positions i.first (drop p text))

-- The turns up to a place, and the walk there, were charged so much, or less.
abbrev pub ChargedAt : Image → List ℕ → ℕ → ℕ → Type 0
ChargedAt i text p most =
    (walked charged cut : ℕ) × TurnsTo i.positions i.first text p walked charged cut
    × (charged + charge i.positions i.first (drop p text) ≤ most)

-- The same of every place that matches found ahead lead to. Up to the last of these it is just so much, without the walk there.
abbrev pub Charged : Image → List ℕ → ℕ → List ℕ → ℕ → Type 0
Charged i text p [] v = (walked cut : ℕ) × TurnsTo i.positions i.first text p walked v cut
Charged i text p (word ∷ words) v =
    ChargedAt i text p v
    × ((rule n : ℕ) → match_at i text p ≡ matched rule n → Charged i text (p + n) words v)

-- What the turns from a place leave, by these matches found ahead, which lead to place `to`: the answer of the whole run; a state from which its
-- turns go on, at place `stop` or past it, with matches left from a number on, which is 0 only at the first place; or a state before `stop`, at
-- `to` or past it, where a walk went over so many bytes in vain, no match being left. What was charged for the first place is charged for the
-- last, with the matches that are left.
abbrev pub TurnsLead : Image → Machine → List ℕ → ℕ → List ℕ → ℕ → ℕ → Ended → List ℕ → Turns → Type 0
TurnsLead i m text place matches to stop whole stack (Done a) =
    (answer_held a ≡ answer_of whole) × ((v : ℕ) → Charged i text place matches v → ChargedAt i text a.place v)
TurnsLead i m text place matches to stop whole stack (Reached s) =
    Going i m.image.now (tables_in m) text stack s whole × (stop ≤ s.place)
    × ((turns : ℕ) × (turns ≡ 0 → s.place ≡ place) × ((v : ℕ) → Charged i text place matches v → Charged i text s.place (drop turns matches) v))
TurnsLead i m text place matches to stop whole stack (InVain s n) =
    Going i m.image.now (tables_in m) text stack s whole × (s.place < stop) × (to ≤ s.place) × (n ≡ 0 → ⊥)
    × (n ≡ vain_bytes i.positions i.first (drop s.place text))
    × ((v : ℕ) → Charged i text place matches v → Charged i text s.place [] v)

-- The turns did not stop at a walk in vain.
abbrev pub NotInVain : Turns → Type 0
NotInVain (Done a) = Unit
NotInVain (Reached s) = Unit
NotInVain (InVain s n) = ⊥

-- What is gone on from after turns that did not stop at a walk in vain. The last case is not asked for.
abbrev pub turn_left : Turns → Result State RunAnswer
turn_left (Done a) = Err a
turn_left (Reached s) = Ok s
turn_left (InVain s n) = Ok s

-- A match of some bytes and of no more than a text has, or none.
abbrev pub WordFits : Option Match → Type 0
WordFits None = Unit
WordFits (Some m) = (1 ≤ m.length) × (m.length ≤ 1048576)

-- The turns up to a place are within the budget, and the walk there breaks it.
abbrev pub Broken : Image → List ℕ → ℕ → Type 0
Broken i text p =
    (walked charged cut : ℕ) × TurnsTo i.positions i.first text p walked charged cut
    × (charged ≤ budget text) × (budget text < charged + charge i.positions i.first (drop p text))

-- What is left once the turns are over, or once their walks in vain cost more than the budget allows: the answer of the whole run, within the
-- budget with its last walk, unless the stack has no entry and no walk is made; or a state from which its turns go on, where the next walk
-- breaks it.
abbrev pub PlainLead : Image → Machine → List ℕ → Ended → List ℕ → Result RunAnswer State → Type 0
PlainLead i m text whole stack (Ok a) = (answer_held a ≡ answer_of whole) × (1 ≤ length stack → ChargedAt i text a.place (budget text))
PlainLead i m text whole stack (Err s) = Going i m.image.now (tables_in m) text stack s whole × Broken i text s.place

-- What the turn at a place leaves, after a walk in vain that was charged so much: the answer of the whole run; or a state at a later place. It
-- does not stop at a walk in vain.
abbrev pub AgainLead : Image → Machine → List ℕ → ℕ → ℕ → Ended → List ℕ → Turns → Type 0
AgainLead i m text place more whole stack (Done a) =
    (answer_held a ≡ answer_of whole) × ((v : ℕ) → Charged i text place [] v → ChargedAt i text a.place (v + more))
AgainLead i m text place more whole stack (Reached s) =
    Going i m.image.now (tables_in m) text stack s whole × (place < s.place) × ((v : ℕ) → Charged i text place [] v → Charged i text s.place [] (v + more))
AgainLead i m text place more whole stack (InVain s n) = ⊥

-- So much of the budget is left at a place: what was not charged.
abbrev pub LeftAt : Image → List ℕ → ℕ → ℕ → Type 0
LeftAt i text p left = (left ≤ budget text) × Charged i text p [] (budget text - left)

-- What some turns by walks leave from a place on: the answer of the whole run, within the budget; a state at a later place or at the text's end,
-- with so much of the budget left; or a state where the next walk breaks the budget.
abbrev pub RoundLead : Image → Machine → List ℕ → ℕ → Ended → List ℕ → ℕ → Turns → Type 0
RoundLead i m text place whole stack left (Done a) = (answer_held a ≡ answer_of whole) × ChargedAt i text a.place (budget text)
RoundLead i m text place whole stack left (Reached s) =
    Going i m.image.now (tables_in m) text stack s whole × (s.place < length text → place < s.place) × LeftAt i text s.place left
RoundLead i m text place whole stack left (InVain s n) = Going i m.image.now (tables_in m) text stack s whole × Broken i text s.place

-- What turns from a place by matches found ahead leave: the answer of the whole run; or a state at a later place, from which its turns go on,
-- with the block that ends before `end`, at most 1,024 places after it.
abbrev pub AheadLead : Image → Machine → List ℕ → ℕ → Ended → List ℕ → List ℕ → ℕ → Result State RunAnswer → Type 0
AheadLead i m text place whole stack block end (Err a) = answer_held a ≡ answer_of whole
AheadLead i m text place whole stack block end (Ok s) =
    Going i m.image.now (tables_in m) text stack s whole × (place < s.place) × (end ≤ s.place + 1024) × HeldBefore i.positions text end block
