-- `decide` meets its contract, by what the descent's number tells.
use borrow.Author.Rules.{rules}
use native.Mathlib.Omega.{arith}
use mathlib.Core.Path.{◌≡◌, sym, ap, ◌∙◌}
use Prim.Native.Nat.{ℕ, ◌-◌, ◌/◌}
use Rattle.image.specs.Answer.{answer}
use lib.ListN.{length, take}
use lib.Seq.{get_or-take, length-take-le}
use Rattle.text_recogniser.specs.Ends.{answer_held}
use Rattle.text_recogniser.proofs.Endings.{decided_all, decided_early, decided_left, told_within}
use Rattle.text_recogniser.proofs.decide.Goals as goal

pub returns-then-told-eq0 : goal.returns-then-told-eq0
unfolding answer_held
returns-then-told-eq0 c o h =
    let a = c.args in
    let long : length a.starts ≡ 2048 = search rules in
    ap answer_held c.answer.ensures
    ∙ decided_all (take a.count a.starts) a.count a.end (length-take-le a.count a.starts (omega (arith, long, c.requires.0))) a.told o h
    c.if-told-eq0.true

pub returns-then-told-eq1 : goal.returns-then-told-eq1
unfolding answer_held
returns-then-told-eq1 c o h =
    let a = c.args in
    let long : length a.starts ≡ 2048 = search rules in
    ap answer_held c.answer-then-told-eq1.ensures
    ∙ decided_early (take a.count a.starts) a.count a.end (length-take-le a.count a.starts (omega (arith, long, c.requires.0))) a.told o h
    c.if-told-eq1.true

pub returns : goal.returns
unfolding answer_held
returns c o h =
    let a = c.args in
    let long : length a.starts ≡ 2048 = search rules in
    let within = told_within o h in
    let some : a.told / 2 ≡ 0 → ⊥ = λ z. omega (arith, z) in
    ap answer_held c.answer-2.ensures
    ∙ (ap (λ (p : ℕ). answer 15 p a.count)
    (c.from.ensures ∙ sym (get_or-take a.count a.starts (a.count - a.told / 2) 0 (omega (arith, within))))
    ∙ decided_left (take a.count a.starts) a.count a.end (length-take-le a.count a.starts (omega (arith, long, c.requires.0))) a.told o h
    some)
