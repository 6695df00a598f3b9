-- `tail_entry` meets its contract: one law of `Entries` for each number of members.
use mathlib.Core.Path.{◌≡◌, refl}
use Prim.Native.Nat.{◌+◌, ◌<◌}
use native.Mathlib.Omega.{arith}
use lib.ListN.{length, get_or}
use Rattle.image_reader.proofs.Entries.{first_at, second-at, entry_empty, entry_one, entry_two, entry_more}
use Rattle.image_reader.proofs.tail_entry.Goals as goal
use Rattle.image_reader.proofs.tail_entry.Lts as lts
use Rattle.image_reader.proofs.tail_entry.Reads as reads

abbrev Lts-Else-size-gt2 : Type 0
Lts-Else-size-gt2 = lts.Else2 reads.Pre reads.Post

abbrev Lts-Else-size-eq1 : Type 0
Lts-Else-size-eq1 = lts.Else3 reads.Pre reads.Post

pub bounds-bytes-place : goal.bounds-bytes-place
bounds-bytes-place c = omega (arith, c.requires.2.2.members.inside)

pub returns-then-size-eq0 : goal.returns-then-size-eq0
returns-then-size-eq0 c = λ n tail t few. entry_empty _ _ _ _ tail t c.if-size-eq0.true

pub returns-then-size-gt2 : goal.returns-then-size-gt2
returns-then-size-gt2 c =
    let p = c.requires in
    λ n tail t few. entry_more _ _ _ _ tail t c.if-size-gt2.true p.0 p.1

-- ---- a member at least
first_here : (c : Lts-Else-size-gt2)
    → let a = c.args in (get_or a.bytes.now (a.place + 1) 0 < 64) × (a.place + 1 < length a.bytes.now)
first_here c =
    let p = c.requires in
    first_at _ 0 _ _ p.2.1 p.2.2 p.2.3 refl (omega (arith, c.if-size-eq0.false))

pub overflow_add-first : goal.overflow_add-first
overflow_add-first c = omega (arith, (first_here c.before).1)

pub bounds-bytes-place-2 : goal.bounds-bytes-place-2
bounds-bytes-place-2 c = (first_here c.before.before).1

pub overflow_cast-first : goal.overflow_cast-first
overflow_cast-first c = omega (arith, (first_here c.before.before).0)

pub overflow_add-result-then-size-eq1 : goal.overflow_add-result-then-size-eq1
overflow_add-result-then-size-eq1 c = omega (arith, (first_here c.before.before.before).0)

pub returns-then-size-eq1 : goal.returns-then-size-eq1
returns-then-size-eq1 c = λ n tail t few. entry_one _ _ _ _ tail t few c.if-size-eq1.true _ refl

-- ---- two members
second-here : (c : Lts-Else-size-eq1)
    → let a = c.args in
    get_or a.bytes.now a.place 0 ≡ 2 → (get_or a.bytes.now (a.place + 2) 0 < 64) × (a.place + 2 < length a.bytes.now)
second-here c two =
    let p = c.requires in
    second-at _ 0 _ _ p.2.1 p.2.2 p.2.3 two (omega arith)

pub overflow_add-second : goal.overflow_add-second
overflow_add-second c = omega (arith, (second-here c.before (omega (arith, c.if-size-eq1.false, c.if-size-gt2.false, c.if-size-eq0.false))).1)

pub bounds-bytes-place-3 : goal.bounds-bytes-place-3
bounds-bytes-place-3 c = (second-here c.before.before (omega (arith, c.if-size-eq1.false, c.if-size-gt2.false, c.if-size-eq0.false))).1

pub overflow_cast-second : goal.overflow_cast-second
overflow_cast-second c = omega (arith, (second-here c.before.before (omega (arith, c.if-size-eq1.false, c.if-size-gt2.false, c.if-size-eq0.false))).0)

pub overflow_mul-result : goal.overflow_mul-result
overflow_mul-result c = omega (arith, (second-here c.before.before (omega (arith, c.if-size-eq1.false, c.if-size-gt2.false, c.if-size-eq0.false))).0, (first_here c.before.before.before.before).0)

pub overflow_add-result-2 : goal.overflow_add-result-2
overflow_add-result-2 c = omega (arith, (second-here c.before.before (omega (arith, c.if-size-eq1.false, c.if-size-gt2.false, c.if-size-eq0.false))).0, (first_here c.before.before.before.before).0)

pub overflow_add-result-3 : goal.overflow_add-result-3
overflow_add-result-3 c = omega (arith, (second-here c.before.before (omega (arith, c.if-size-eq1.false, c.if-size-gt2.false, c.if-size-eq0.false))).0, (first_here c.before.before.before.before).0)

pub returns : goal.returns
returns c = λ n tail t few. entry_two _ _ _ _ tail t few (omega (arith, c.if-size-eq1.false, c.if-size-gt2.false, c.if-size-eq0.false)) _ _ refl refl
