-- Lent buffers as lists: the part from a place on, as code lends it, and one entry more that is written after a buffer's front.
use Rattle.std.specs.Prelude.{◌≡◌, List, [], ◌∷◌, ◌++◌, ℕ, suc, ◌-◌, ◌<◌, length, get_or, take, drop, set}
use Rattle.std.proofs.Common.{sym, ap, ◌∙◌, arith, length-drop, take_all, drop-cons}
use Rattle.std.proofs.lemmas.List.{set_at}
use Rattle.std.proofs.Math.Seq.{append_snoc}

pub rest_from : (l : List ℕ) (p : ℕ) → take (length l - p) (drop p l) ≡ drop p l
rest_from l p = take_all (length l - p) (drop p l) (simp length-drop (omega arith))

pub written_one : (front buffer : List ℕ) (v at : ℕ) → length front ≡ at → at < length buffer
    → set (front ++ drop at buffer) at v ≡ (front ++ (v ∷ [])) ++ drop (suc at) buffer
written_one front buffer v at e h =
    ap (λ (l : List ℕ). set (front ++ l) at v) (drop-cons buffer at 0 h)
    ∙ set_at front (get_or buffer at 0) (drop (suc at) buffer) v at e
    ∙ sym (append_snoc front v (drop (suc at) buffer))
