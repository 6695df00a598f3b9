-- `turn_again` meets its contract: the match of the walk that is made again is the one match found ahead, and the turn by it leads past its place.
use mathlib.Core.Path.{◌≡◌, refl, ◌∙◌}
use mathlib.Core.List.{List, [], ◌∷◌}
use Prim.Native.Nat.{ℕ, zero, suc, ◌+◌, ◌-◌, ◌≤◌}
use native.Mathlib.Omega.{arith}
use lib.ListN.{length, drop, length-take, length-drop}
use Rattle.lexer.proofs.laws.LongestMatchLaws.{match_within}
use Rattle.lexer.specs.Alive.{vain_bytes}
use Rattle.image.specs.Image.{Image}
use Rattle.image_reader.specs.Decoded.{ImageTables}
use Rattle.scanner.specs.Meaning.{match_of}
use Rattle.machine.specs.Trace.{Ended, match_at}
use Rattle.machine_turn.specs.laws.Going.{Going}
use Rattle.alive_scanner.specs.Ahead.{Ahead}
use Rattle.machine_loop.specs.declared.Turns.{Turns}
use Rattle.machine_loop.specs.declared.Turns.TheVariants.{Done, Reached, InVain}
use Rattle.machine_loop.specs.Prepared.{tables_in, WithTables}
use Rattle.machine_loop.specs.declared.Machine.{Machine}
use Rattle.machine_loop.specs.Turning.{Charged, TurnsLead, AgainLead}
use Rattle.machine_loop.proofs.ByRows.{no_rows, without_rows, same_going, same_lead}
use Rattle.machine_loop.proofs.TurningLaws.{no_walk}
use Rattle.machine_loop.proofs.Charging.{word_fits, walk-inside, match_again, charged_again}
use Rattle.machine_loop.proofs.turn_again.Goals as goal
use Rattle.machine_loop.proofs.turn_again.Goals.{Start}
use Rattle.machine_loop.proofs.turn_again.Lts as lts
use Rattle.machine_loop.proofs.turn_again.Tie as tie
use Rattle.machine_loop.proofs.turn_again.Reads as reads

abbrev Lts-After-scan-arg-1 : Type 0
Lts-After-scan-arg-1 = lts.After-scan-arg tie.the-claims reads.Pre reads.Post

abbrev Lts-After-scan-found : Type 0
Lts-After-scan-found = lts.After-scan tie.the-claims reads.Pre reads.Post

abbrev Lts-After-word_of : Type 0
Lts-After-word_of = lts.After-word_of tie.the-claims reads.Pre reads.Post

abbrev Lts-After-turns_from : Type 0
Lts-After-turns_from = lts.After-turns_from tie.the-claims reads.Pre reads.Post

-- What one turn by the match leaves, as it is gone on from.
gone_on : (i : Image) (m : Machine) (text : List ℕ) (place word more : ℕ) (whole : Ended) (stack : List ℕ)
    → ((v : ℕ) → Charged i text place [] v → Charged i text place (word ∷ []) (v + more)) → (turned : Turns)
    → TurnsLead i m text place (word ∷ []) (place + 1) (place + 1) whole stack turned
    → AgainLead i m text place more whole stack turned
gone_on i m text place word more whole stack charged (Done a) l = (l.0, λ v x. l.1 _ (charged v x))
gone_on i m text place word more whole stack charged (Reached s) l = (l.0, omega (arith, l.1), λ v x. used l.2.0 l.2.1 (v + more) (l.2.2 _ (charged v x)))
  where
    used : (turns : ℕ) → (turns ≡ 0 → s.place ≡ place) → (v : ℕ) → Charged i text s.place (drop turns (word ∷ [])) v → Charged i text s.place [] v
    used zero h v x = absurd (omega (arith, h refl, l.1))
    used (suc zero) h v x = x
    used (suc (suc k)) h v x = x
gone_on i m text place word more whole stack charged (InVain s n) l = no_walk i m text place (word ∷ []) (place + 1) whole stack (InVain s n) l

-- The start, from where the walk is made again, and from there on.
abbrev start_of : Lts-After-scan-arg-1 → Start
start_of c = c.before.before.before

abbrev tables-here : Start → ImageTables
tables-here s = let a = s.args in tables_in a.machine.now

abbrev Held : Start → Image → Ended → Type 0
Held s i whole =
    let a = s.args in
    WithTables a.machine.now i
    × Going i a.machine.now.image.now (tables-here s) a.text.now a.stack.now a.state whole
    × (a.n ≡ vain_bytes i.positions i.first (drop a.state.place a.text.now))

-- The bytes of the walk lie within the text.
inside : (s : Start) → s.args.state.place + s.args.n ≤ length s.args.text.now
inside s =
    let w = s.requires.3 in
    walk-inside w.0 s.args.text.now s.args.state.place s.args.n s.requires.2 w.4 (omega (arith, s.requires.1))

-- The match of the walk that is made again is the one at the place.
match_here : (c : Lts-After-scan-found) (i : Image) (whole : Ended)
    → let s = start_of c.before in
    Held s i whole → match_of c.scan-found.result ≡ match_at i s.args.text.now s.args.state.place
match_here c i whole w =
    let s = start_of c.before in
    let a = s.args in
    c.scan-found.ensures i w.0
    ∙ match_again i a.text.now a.state.place a.n s.requires.2 w.2 (a.state.place + a.n - a.state.place) (omega arith)

-- The one word is the match found ahead, and leads past the place.
ahead-here : (c : Lts-After-word_of) (i : Image) (whole : Ended)
    → let s = start_of c.before.before in
    let a = s.args in
    Held s i whole → Ahead i.positions i.first a.text.now (a.state.place + 1) a.state.place (c.word_of.result ∷ [])
ahead-here c i whole w =
    let a = (start_of c.before.before).args in
    let e = c.word_of.ensures ∙ match_here c.before i whole w in
    (e, λ rule n m. omega (arith, (match_within i.positions i.first (drop a.state.place a.text.now) rule n m).0))

-- What the turn leaves.
led : (c : Lts-After-turns_from) (i : Image) (whole : Ended)
    → let word = c.before.before.before.before.before in
    let s = start_of word.before.before in
    let a = s.args in
    Held s i whole
    → TurnsLead i a.machine.now a.text.now a.state.place (word.word_of.result ∷ []) (a.state.place + 1) (a.state.place + 1)
    whole c.turns_from.new.stack c.turns_from.result
led c i whole w =
    let word = c.before.before.before.before.before in
    let a = (start_of word.before.before).args in
    let m = a.machine.now in
    let e = c.without_rows-by_sets.ensures in
    same_lead m _ e i a.text.now whole a.state.place (word.word_of.result ∷ []) (a.state.place + 1) (a.state.place + 1) c.turns_from.new.stack c.turns_from.result
    (c.turns_from.ensures i whole _ (without_rows m _ e w.0) (same_going m _ e i _ whole w.1) (ahead-here word i whole w))

pub overflow_add-p : goal.overflow_add-p
overflow_add-p c = let s = c.before.before.before in omega (arith, inside s, s.requires.0)

pub slice_bounds-scan-end : goal.slice_bounds-scan-end
slice_bounds-scan-end c = omega (arith, inside c.before.before.before)

pub word_of-requires : goal.word_of-requires
word_of-requires c =
    let s = start_of c.before.before in
    let a = s.args in
    let w = s.requires.3 in
    word_fits w.0 _ c.scan-found.result (c.scan-found.ensures w.0 w.2)
    (omega (
      arith,
      s.requires.0,
      length-take (a.state.place + a.n - a.state.place) (drop a.state.place a.text.now),
      length-drop a.state.place a.text.now,
    ))

pub overflow_add-stop : goal.overflow_add-stop
overflow_add-stop c = let s = start_of c.before.before.before in omega (arith, inside s, s.requires.0, s.requires.1)

pub turns_from-requires : goal.turns_from-requires
turns_from-requires c =
    let word = c.before.before.before.before.before in
    let s = start_of word.before.before in
    let w = s.requires.3 in
    let m = s.args.machine.now in
    let e = c.without_rows-by_sets.ensures in
    let held : Held s w.0 w.1 = (w.2, w.3, w.4) in (
      omega (arith, inside s, s.requires.1),
      λ some. absurd (no_rows m _ e some),
      (w.0, w.1, s.args.state.place + 1, without_rows m _ e w.2, same_going m _ e w.0 _ w.1 w.3, ahead-here word w.0 w.1 held),
    )

pub returns : goal.returns
returns c =
    let turns = c.before.before.before in
    let word = turns.before.before.before.before.before in
    let s = start_of word.before.before in
    let a = s.args in
    λ i whole w g e.
    let held : Held s i whole = (w, g, e) in
    let m = word.word_of.ensures ∙ match_here word.before i whole held in
    gone_on i a.machine.now a.text.now a.state.place word.word_of.result (a.n + a.n) whole _
    (λ v x. charged_again i a.text.now a.state.place a.n s.requires.2 e word.word_of.result v s.requires.1 m x) turns.turns_from.result
    (led turns i whole held)
