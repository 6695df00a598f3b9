-- What is seen at a place: by the word of a match that was found ahead, or by one walk.
use Rattle.std.specs.Prelude.{Option, Result, Ok, Err}
use mathlib.Core.Path.{◌≡◌, refl, sym, ap, ◌∙◌}
use mathlib.Core.Bool.{Bool, cond}
use mathlib.Core.List.{List, [], ◌∷◌}
use Prim.Native.Nat.{ℕ}
use native.Mathlib.Omega.{arith}
use lib.ListN.{drop}
use borrow.Author.Tests.{eq-eqb}
use Rattle.lexer.specs.Match.{Match}
use Rattle.lexer.specs.Walk.{longest_match}
use Rattle.lexer.specs.Alive.{walk_bytes, vain, vain_bytes, Told, ends_with, in_vain, told_by, told}
use Rattle.lexer.proofs.laws.AliveLaws.{not_both, told_match, told-vain}
use Rattle.scanner.specs.Meaning.{match_of}
use Rattle.image.specs.Image.{Image}
use Rattle.alive_scanner.specs.Ahead.{word_match, Ahead}
use Rattle.machine_loop.specs.Turning.{SeenBy, SeenAt}
use Rattle.scanner.specs.declared.Match as code

-- A walk in vain goes over some bytes.
some-vain : (n k : ℕ) (m : Match) → told_by n m ≡ in_vain k → k ≡ 0 → ⊥
unfolding told_by
some-vain n k m e z =
    let v = (told-vain n k m e).0 ∙ z in
    let f : ends_with m ≡ in_vain k = sym (ap (λ (b : Bool). cond b (ends_with m) (in_vain (vain n m))) (eq-eqb (vain n m) 0 v)) ∙ e in
    not_both f

module _ (i : Image) (text : List ℕ) (p : ℕ) where
  pub seen_walk : (r : Result (Option code.Match) ℕ) → SeenBy r (told i.positions i.first (drop p text)) → SeenAt i text p [] r
  unfolding told vain_bytes
  seen_walk r h = go r (told i.positions i.first (drop p text)) refl h
    where
      go : (r : Result (Option code.Match) ℕ) (t : Told) → told i.positions i.first (drop p text) ≡ t → SeenBy r t → SeenAt i text p [] r
      go (Ok f) (ends_with m) e s =
          let x = told_match (walk_bytes i.positions i.first (drop p text)) (longest_match i.positions i.first (drop p text)) m e in
          (s ∙ sym x.0, λ w. x.1)
      go (Ok f) (in_vain k) e s = absurd s
      go (Err n) (ends_with m) e s = absurd s
      go (Err n) (in_vain k) e s =
          let walked = walk_bytes i.positions i.first (drop p text) in
          let m = longest_match i.positions i.first (drop p text) in
          (λ z. some-vain walked k m e (sym s ∙ z), refl, s ∙ sym (told-vain walked k m e).0)

  pub seen_word : (to word : ℕ) (words : List ℕ) → Ahead i.positions i.first text to p (word ∷ words) → (found : Option code.Match)
      → match_of found ≡ word_match word → SeenAt i text p (word ∷ words) (Ok found)
  seen_word to word words ahead found e = (e ∙ ahead.0, λ w. absurd (not_empty w))
    where
      not_empty : {w : ℕ} {ws : List ℕ} → ◌≡◌ {A = List ℕ} (w ∷ ws) [] → ⊥
      not_empty e = let z : ◌≡◌ {A = ℕ} 0 1 = cc in absurd (omega arith)
