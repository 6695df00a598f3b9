use mathlib.Core.Path.{◌≡◌, refl, sym, ap, ◌∙◌}
use mathlib.Core.Bool.{Bool, true, false, cond}
use mathlib.Core.List.{List}
use Prim.Native.Nat.{ℕ, suc, ◌+◌, ◌-◌, ◌^◌, ◌≤◌, ◌<◌}
use native.Mathlib.Omega.{arith}
use native.Mathlib.Numerals.{add-one}
use lib.Bits.{bit_or, or_zero_l, or_zero_r}
use lib.ListN.{get_or, drop}
use lib.Seq.{get_or-drop}
use Rattle.basics.proofs.laws.BitLaws.{or_assoc}
use Rattle.lexer.specs.Alive.{meets}
use Rattle.leading_sets.specs.Leading.{over_positions, leading_part, leading}
use Rattle.leading_sets.proofs.leading_to.Goals as goal

-- With a position, or with nothing.
with_or : (found p : ℕ) (leads : Bool) → cond leads (bit_or found p) found ≡ bit_or found (cond leads p 0)
with_or found p true = refl
with_or found p false = sym (or_zero_r found)

-- One position more.
one_more : (follow : List ℕ) (set found i whole : ℕ) → i < 64 → bit_or found (over_positions (leading_part follow set) i (64 - i)) ≡ whole
    → (leads : Bool) → leads ≡ meets (get_or follow i 0) set → (next : ℕ) → next ≡ cond leads (bit_or found (2 ^ i)) found
    → bit_or next (over_positions (leading_part follow set) (i + 1) (64 - (i + 1))) ≡ whole
unfolding over_positions leading_part
one_more follow set found i whole h e leads g next f =
    let n : ℕ = 64 - (i + 1) in
    let x : ℕ = leading_part follow set i in
    let size : suc n ≡ 64 - i = omega arith in
    ap (λ (y : ℕ). bit_or y (over_positions (leading_part follow set) (i + 1) n))
    (f ∙ with_or found (2 ^ i) leads ∙ ap (λ (b : Bool). bit_or found (cond b (2 ^ i) 0)) g)
    ∙ or_assoc found x (over_positions (leading_part follow set) (i + 1) n)
    ∙ ap (bit_or found) (ap (λ (k : ℕ). bit_or x (over_positions (leading_part follow set) k n)) (add-one i))
    ∙ ap (λ (k : ℕ). bit_or found (over_positions (leading_part follow set) i k)) size
    ∙ e

no_more : (follow : List ℕ) (set found i whole : ℕ) → 64 ≤ i → bit_or found (over_positions (leading_part follow set) i (64 - i)) ≡ whole
    → found ≡ whole
unfolding over_positions
no_more follow set found i whole h e =
    let size : 0 ≡ 64 - i = omega arith in
    sym (or_zero_r found) ∙ ap (λ (k : ℕ). bit_or found (over_positions (leading_part follow set) i k)) size ∙ e

pub loop-i-init : goal.loop-i-init
loop-i-init c = or_zero_l (leading (drop 256 c.args.tables.now) c.args.set)

pub loop-i-preserved : goal.loop-i-preserved
unfolding meets
loop-i-preserved c =
    let l = c.loop-i in
    let a = c.args in
    let f = drop 256 a.tables.now in
    one_more f a.set l.found l.i _ (omega arith) l.invariant _ (ap (λ (x : ℕ). meets x a.set) (sym (get_or-drop 256 a.tables.now l.i 0)))
    _ c.with-found.ensures

pub returns : goal.returns
returns c = no_more _ _ _ _ _ (omega arith) c.loop-i.invariant
