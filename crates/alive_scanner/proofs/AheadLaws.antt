-- Matches found ahead, as the code goes: one word more at the end.
use mathlib.Core.Path.{◌≡◌, sym, ap, subst, ◌∙◌}
use mathlib.Core.List.{List, [], ◌∷◌, ◌++◌, append_assoc, append-nil}
use Prim.Native.Nat.{ℕ, ◌+◌, ◌<◌}
use native.Mathlib.Omega.{arith}
use native.Mathlib.Numerals.{add-one}
use lib.ListN.{length, set, take, drop}
use lib.Seq.{take-suc-set}
use Rattle.lexer.specs.Positions.{Position}
use Rattle.lexer.specs.Match.{no_match, matched}
use Rattle.lexer.specs.Walk.{longest_match}
use Rattle.alive_scanner.specs.Ahead.{word_match, Ahead}
use Rattle.alive_scanner.proofs.laws.WordLaws.{word_none}

-- So many words from a place on lead to place p: with the matches from there on, they are matches from the first place on.
abbrev pub FoundTo : List Position → ℕ → List ℕ → ℕ → ℕ → ℕ → List ℕ → Type 0
FoundTo ps first text place p count words =
    (to : ℕ) (ws : List ℕ) → Ahead ps first text to p ws → Ahead ps first text to place (take count words ++ ws)

module _ (ps : List Position) (first : ℕ) (text : List ℕ) (place : ℕ) where
  pub found_start : (words : List ℕ) → FoundTo ps first text place place 0 words
  found_start words to ws a = a

  pub found_all : (p count : ℕ) (words : List ℕ) → FoundTo ps first text place p count words → Ahead ps first text p place (take count words)
  found_all p count words f = subst (Ahead ps first text p place) (append-nil (take count words)) (f p [] (omega arith))

  -- One word more, and what comes after it.
  found_word : (p count w to : ℕ) (words ws : List ℕ) → count < length words → word_match w ≡ longest_match ps first (drop p text)
      → ((rule n : ℕ) → longest_match ps first (drop p text) ≡ matched rule n → Ahead ps first text to (p + n) ws)
      → FoundTo ps first text place p count words → Ahead ps first text to place (take (count + 1) (set words count w) ++ ws)
  found_word p count w to words ws h e next f =
      subst (Ahead ps first text to place)
      (sym
      (ap (λ (k : ℕ). take k (set words count w) ++ ws) (add-one count) ∙ ap (λ (l : List ℕ). l ++ ws) (take-suc-set words count w h)
      ∙ append_assoc (take count words) (w ∷ []) ws))
      (f to (w ∷ ws) (e, next))

  same_length : {rule n rule' n' : ℕ} → matched rule n ≡ matched rule' n' → n ≡ n'
  same_length e = cc

  pub found_more : (p p' count w rule n : ℕ) (words : List ℕ) → count < length words → word_match w ≡ matched rule n
      → matched rule n ≡ longest_match ps first (drop p text) → p' ≡ p + n → FoundTo ps first text place p count words
      → FoundTo ps first text place p' (count + 1) (set words count w)
  found_more p p' count w rule n words h e m after f to ws a =
      found_word p count w to words ws h (e ∙ m)
      (λ rule' n' k. subst (λ (x : ℕ). Ahead ps first text to x ws) (after ∙ ap (λ (x : ℕ). p + x) (same_length (m ∙ k))) a) f

  -- No match is not a match.
  none_or_some : {rule n : ℕ} → no_match ≡ matched rule n → ⊥
  none_or_some e = let z : ◌≡◌ {A = ℕ} 0 1 = cc in absurd (omega arith)

  -- The word of no match comes last: it leads nowhere.
  pub found_none : (p count to : ℕ) (words : List ℕ) → count < length words → no_match ≡ longest_match ps first (drop p text)
      → FoundTo ps first text place p count words → Ahead ps first text to place (take (count + 1) (set words count 0))
  found_none p count to words h m f =
      subst (Ahead ps first text to place) (append-nil (take (count + 1) (set words count 0)))
      (found_word p count 0 to words [] h (word_none ∙ m) (λ rule n k. absurd (none_or_some (m ∙ k))) f)
