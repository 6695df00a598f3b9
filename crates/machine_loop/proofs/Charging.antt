-- Turns by walks that are made again where they are in vain, as the code goes: at the start, and after one more walk in vain.
use Rattle.std.specs.Prelude.{Option, Some, None}
use mathlib.Core.Path.{◌≡◌, refl, sym, ap, subst, ◌∙◌}
use mathlib.Core.Bool.{Bool, true, false, cond}
use mathlib.Core.List.{List, [], ◌∷◌}
use mathlib.Core.Logic.{⊎_elim}
use Prim.Native.Nat.{ℕ, ◌+◌, ◌-◌, ◌≤◌, ◌<◌}
use native.Mathlib.Omega.{arith}
use lib.ListN.{length, take, drop, length-drop, drop_of_length-le}
use Rattle.lexer.specs.Walk.{walk, longest_match}
use Rattle.lexer.specs.Alive.{walk_bytes, match_bytes, vain, vain_bytes, cut_bytes}
use Rattle.lexer.proofs.laws.AliveLaws.{walk_bytes_most, walk-front}
use Rattle.lexer.proofs.laws.VainLaws.{match_or-vain}
use Rattle.lexer.proofs.laws.LongestMatchLaws.{match_within}
use Rattle.scanner.specs.Meaning.{match_of}
use Rattle.scanner.specs.declared.Match.{Match}
use Rattle.image.specs.Image.{Image}
use Rattle.machine.specs.Trace.{match_at}
use Rattle.machine.specs.Work.{charge, budget, TurnsTo, none_yet, one_more}
use Rattle.machine_turn.specs.Steps.{run_answer, all_members, end_answer}
use Rattle.machine_turn.specs.declared.RunAnswer.{RunAnswer}
use Rattle.alive_scanner.specs.Ahead.{word_match}
use Rattle.machine_loop.specs.Turning.{Charged, WordFits}

-- The text's end is named by its place.
pub end_place : (empty : ℕ) (l : List ℕ) (p count : ℕ) → (end_answer empty l p count).place ≡ p
unfolding end_answer
end_place empty l p count = go (all_members empty l)
  where
    go : (b : Bool) → (cond {A = RunAnswer} b (run_answer 0 p count) (run_answer 16 p count)).place ≡ p
    go true = refl
    go false = refl

-- No walk goes past the text's end.
pub none-at_end : (i : Image) (text : List ℕ) (p : ℕ) → length text ≤ p → vain_bytes i.positions i.first (drop p text) ≡ 0
unfolding vain_bytes vain walk_bytes longest_match walk match_bytes
none-at_end i text p h = rw (drop_of_length-le text {i = p} h)

-- A match within a text of at most so many bytes has its word.
pub word_fits : (i : Image) (text : List ℕ) (f : Option Match) → match_of f ≡ longest_match i.positions i.first text → length text ≤ 1048576 → WordFits f
unfolding match_of
word_fits i text None e h = tt
word_fits i text (Some m) e h =
    let w = match_within i.positions i.first text m.rule m.length (sym e) in
    (omega (arith, w.0), omega (arith, w.1))

module _ (i : Image) (text : List ℕ) where
  pub charged_first : Charged i text 0 [] (budget text - budget text)
  charged_first =
      let z : 0 ≡ budget text - budget text = omega arith in
      (0, 0, subst (λ (v : ℕ). TurnsTo i.positions i.first text 0 0 v 0) z none_yet)

  module _ (p n : ℕ) (some_bytes : n ≡ 0 → ⊥) (e : n ≡ vain_bytes i.positions i.first (drop p text)) where
    -- A walk in vain went over all its bytes.
    whole_walk : n ≡ walk_bytes i.positions i.first (drop p text)
    unfolding vain_bytes
    whole_walk =
        ⊎_elim (λ z. absurd (some_bytes (e ∙ z.1))) (λ z. e ∙ z)
        (match_or-vain (walk_bytes i.positions i.first (drop p text)) (longest_match i.positions i.first (drop p text)))

    pub walk-inside : p ≤ length text → p + n ≤ length text
    walk-inside h = omega (arith, whole_walk, walk_bytes_most i.positions i.first (drop p text), length-drop p text)

    -- Its match is found in these bytes.
    pub match_again : (k : ℕ) → k ≡ n → longest_match i.positions i.first (take k (drop p text)) ≡ match_at i text p
    match_again k h =
        ap (λ (x : ℕ). longest_match i.positions i.first (take x (drop p text))) (h ∙ whole_walk)
        ∙ walk-front i.positions i.first (drop p text)

    pub charge_is : charge i.positions i.first (drop p text) ≡ n + n
    unfolding charge
    charge_is = omega (arith, e)

    -- Both walks are charged, and the match is known.
    pub charged_again : (word v : ℕ) → p < length text → word_match word ≡ match_at i text p
        → Charged i text p [] v → Charged i text p (word ∷ []) (v + (n + n))
    charged_again word v inside w c =
        let e : v + charge i.positions i.first (drop p text) ≡ v + (n + n) = omega (arith, charge_is) in (
          (c.0, v, c.1, c.2, omega (arith, charge_is)),
          λ rule k m.
              let rest = drop p text in
              let walked = c.0 + (walk_bytes i.positions i.first rest + vain_bytes i.positions i.first rest) in
              let cut = c.1 + cut_bytes i.positions i.first rest in
              (walked, cut, subst (λ (x : ℕ). TurnsTo i.positions i.first text (p + k) walked x cut) e (one_more rule k c.2 inside m)),
        )
