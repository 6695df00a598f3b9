-- `turns_by_walks` meets its contract: what the turns leave, and after a walk in vain what the turn leaves whose walk is made again.
use mathlib.Core.Path.{◌≡◌, refl, subst}
use mathlib.Core.List.{List, []}
use Prim.Native.Nat.{ℕ, zero, suc, ◌+◌, ◌-◌, ◌≤◌}
use native.Mathlib.Omega.{arith}
use lib.ListN.{length, drop}
use Rattle.image.specs.Image.{Image}
use Rattle.image_reader.specs.Decoded.{ImageTables}
use Rattle.machine.specs.Trace.{Ended}
use Rattle.machine.specs.Work.{budget}
use Rattle.machine_turn.specs.laws.Going.{Going}
use Rattle.machine_turn.specs.declared.State.{State}
use Rattle.machine_loop.specs.declared.Turns.{Turns}
use Rattle.machine_loop.specs.declared.Turns.TheVariants.{Done, Reached, InVain}
use Rattle.machine_loop.specs.Prepared.{tables_in, WithTables}
use Rattle.machine_loop.specs.declared.Machine.{Machine}
use Rattle.machine_loop.specs.Turning.{Charged, TurnsLead, AgainLead, LeftAt, RoundLead}
use Rattle.machine_loop.proofs.Charging.{walk-inside, charge_is}
use Rattle.machine_loop.proofs.turns_by_walks.Goals as goal
use Rattle.machine_loop.proofs.turns_by_walks.Goals.{Start}
use Rattle.machine_loop.proofs.turns_by_walks.Lts as lts
use Rattle.machine_loop.proofs.turns_by_walks.Tie as tie
use Rattle.machine_loop.proofs.turns_by_walks.Reads as reads

abbrev Lts-After-turns_from-turned : Type 0
Lts-After-turns_from-turned = lts.After-turns_from tie.the-claims reads.Pre reads.Post

abbrev Lts-In-InVain : Type 0
Lts-In-InVain = lts.Past-After-known_told tie.the-claims reads.Pre reads.Post

-- The start, from what the turns leave, and that, from a walk in vain.
abbrev start_of : Lts-After-turns_from-turned → Start
start_of c = c.before.before.before.before.before

abbrev turns-of : Lts-In-InVain → Lts-After-turns_from-turned
turns-of t = t.before.before.before

abbrev tables-here : Start → ImageTables
tables-here s = let a = s.args in tables_in a.machine.now

abbrev Held : Start → Image → Ended → Type 0
Held s i whole =
    let a = s.args in
    WithTables a.machine.now i
    × Going i a.machine.now.image.now (tables-here s) a.text.now a.stack.now a.from whole
    × LeftAt i a.text.now a.from.place a.left

abbrev stack-left : Lts-After-turns_from-turned → List ℕ
stack-left c = c.turns_from-turned.new.stack

-- What the turns leave, for any image that the tables hold.
abbrev Led : Lts-After-turns_from-turned → Image → Ended → Turns → Type 0
Led c i whole =
    let s = start_of c in
    let a = s.args in
    TurnsLead i a.machine.now a.text.now a.from.place [] a.from.place (length a.text.now) whole (stack-left c)

led : (c : Lts-After-turns_from-turned) (i : Image) (whole : Ended) → Held (start_of c) i whole → Led c i whole c.turns_from-turned.result
led c i whole w = c.turns_from-turned.ensures i whole (start_of c).args.from.place w.0 w.1 (omega arith)

-- Turns that end without a walk in vain come to the answer, or to the text's end.
ended : (i : Image) (m : Machine) (text : List ℕ) (place left : ℕ) (whole : Ended) (stack : List ℕ) → LeftAt i text place left
    → (turned : Turns) → ((s : State) (n : ℕ) → turned ≡ InVain s n → ⊥) → TurnsLead i m text place [] place (length text) whole stack turned
    → RoundLead i m text place whole stack left turned
ended i m text place left whole stack h (Done a) tag l = let y = l.1 _ h.1 in (l.0, (y.0, y.1, y.2, y.3, omega (arith, y.4)))
ended i m text place left whole stack h (Reached s) tag l =
    (l.0, λ m. absurd (omega (arith, m, l.1)), (h.0, used l.2.0 (l.2.2 _ h.1)))
  where
    used : (turns : ℕ) → Charged i text s.place (drop turns []) (budget text - left) → Charged i text s.place [] (budget text - left)
    used zero c = c
    used (suc k) c = c
ended i m text place left whole stack h (InVain s n) tag l = absurd (tag s n refl)

-- ---- a walk in vain
abbrev state-of : Lts-In-InVain → State
state-of t = t.in-InVain.s

abbrev bytes_of : Lts-In-InVain → ℕ
bytes_of t = t.in-InVain.n

vain-here : (t : Lts-In-InVain) (i : Image) (whole : Ended) → Held (start_of (turns-of t)) i whole
    → Led (turns-of t) i whole (InVain (state-of t) (bytes_of t))
vain-here t i whole w = subst (Led (turns-of t) i whole) t.in-InVain.is (led (turns-of t) i whole w)

-- Its bytes lie within the text.
inside : (t : Lts-In-InVain)
    → let text = (start_of (turns-of t)).args.text.now in
    ((state-of t).place + bytes_of t ≤ length text) × (length text ≤ 1048576)
inside t =
    let s = start_of (turns-of t) in
    let w = s.requires.1 in
    let v = vain-here t w.0 w.1 (w.2, w.3, w.4) in
    let before = v.1 in
    (walk-inside w.0 s.args.text.now (state-of t).place (bytes_of t) v.3 v.4 (omega (arith, before)), s.requires.0)

pub turns_from-turned-requires : goal.turns_from-turned-requires
turns_from-turned-requires c =
    let s = c.before.before.before.before.before in
    let w = s.requires.1 in
    (omega arith, λ e. refl, (w.0, w.1, s.args.from.place, w.2, w.3, omega arith))

pub returns-in_default : goal.returns-in_default
returns-in_default c =
    let turns = c.before.before.before.before in
    let a = (start_of turns).args in
    λ i whole w g h.
    ended i a.machine.now a.text.now a.from.place a.left whole (stack-left turns) h turns.turns_from-turned.result
    c.in_default.not-InVain (led turns i whole (w, g, h))

pub overflow_add-n : goal.overflow_add-n
overflow_add-n t = let b = inside t.before in omega (arith, b.0, b.1)

pub returns-then-left-n : goal.returns-then-left-n
returns-then-left-n c =
    let t = c.before.before in
    let a = (start_of (turns-of t)).args in
    λ i whole w g h.
    let x = vain-here t i whole (w, g, h) in
    let y = x.5 _ h.1 in
    let n = charge_is i a.text.now (state-of t).place (bytes_of t) x.3 x.4 in
    (x.0, (y.0, budget a.text.now - a.left, y.1, y.2, omega arith, omega (arith, n, c.if-left-n.true, h.0)))

pub turn_again-again-requires : goal.turn_again-again-requires
turn_again-again-requires c =
    let t = c.before.before.before in
    let s = start_of (turns-of t) in
    let w = s.requires.1 in
    let x = vain-here t w.0 w.1 (w.2, w.3, w.4) in
    (s.requires.0, x.1, x.3, (w.0, w.1, w.2, x.0, x.4))

pub overflow_add-result : goal.overflow_add-result
overflow_add-result c = let b = inside c.before.before.before.before.before.before in omega (arith, b.0, b.1)

pub overflow_sub-result : goal.overflow_sub-result
overflow_sub-result c = omega (arith, c.if-left-n.false)

-- The turn whose walk was made again leaves so much less of the budget.
after : (i : Image) (m : Machine) (text : List ℕ) (place p left n : ℕ) (whole : Ended) (stack : List ℕ) → place ≤ p → n + n ≤ left
    → left ≤ budget text → Charged i text p [] (budget text - left) → (turned : Turns) → AgainLead i m text p (n + n) whole stack turned
    → RoundLead i m text place whole stack (left - (n + n)) turned
after i m text place p left n whole stack pl nl h c (Done a) l = let y = l.1 _ c in (l.0, (y.0, y.1, y.2, y.3, omega (arith, y.4)))
after i m text place p left n whole stack pl nl h c (Reached s) l =
    let e : (budget text - left) + (n + n) ≡ budget text - (left - (n + n)) = omega arith in
    (l.0, λ m. omega (arith, l.1), (omega arith, subst (Charged i text s.place []) e (l.2 _ c)))
after i m text place p left n whole stack pl nl h c (InVain s k) l = absurd l

pub returns : goal.returns
returns c =
    let again = c.before.before.before in
    let t = again.before.before.before in
    let s = start_of (turns-of t) in
    let a = s.args in
    λ i whole w g h.
    let x = vain-here t i whole (w, g, h) in
    after i a.machine.now a.text.now a.from.place (state-of t).place a.left (bytes_of t) whole _ x.2
    again.if-left-n.false h.0 (x.5 _ h.1) again.turn_again-again.result (again.turn_again-again.ensures i whole w x.0 x.4)
