-- The lists that a function gives for the numbers below n, joined in order: what a loop over an index makes.
-- Nothing here speaks of grammars or of images.
use Rattle.std.specs.Prelude.{◌≡◌, refl, List, [], ◌∷◌, ◌++◌, ℕ, zero, suc, ◌≤◌, ◌<◌, get_or, length, take}
use Rattle.std.proofs.Common.{sym, ap, ap₂, ◌∙◌, append_assoc, append-nil, arith, take-suc}
use Rattle.std.proofs.Math.Seq.{take-length}
use Rattle.image.specs.Image.{all_numbers}
use Rattle.node_numbering.specs.laws.Below.{concat_below}

-- Functions that agree below n give the same.
pub concat_below_same : (f g : ℕ → List ℕ) (n : ℕ) → ((k : ℕ) → k < n → f k ≡ g k) → concat_below f n ≡ concat_below g n
unfolding concat_below
concat_below_same f g zero h = refl
concat_below_same f g (suc n) h = ap₂ ◌++◌ (concat_below_same f g n (λ k l. h k (omega arith))) (h n (omega arith))

pub all_numbers-append : {A : Type 0} (g : A → List ℕ) (k l : List A) → all_numbers g (k ++ l) ≡ all_numbers g k ++ all_numbers g l
all_numbers-append g [] l = refl
all_numbers-append g (a ∷ k) l = ap (λ (m : List ℕ). g a ++ m) (all_numbers-append g k l) ∙ sym (append_assoc (g a) (all_numbers g k)
    (all_numbers g l))

-- A loop over the places of a list gives the numbers of all its members.
pub concat_below_list : {A : Type 0} (f : ℕ → List ℕ) (g : A → List ℕ) (l : List A) (other : A)
    → ((k : ℕ) → k < length l → f k ≡ g (get_or l k other)) → concat_below f (length l) ≡ all_numbers g l
unfolding concat_below
concat_below_list f g l other h = go (length l) (omega arith) ∙ ap (all_numbers g) (take-length l)
  where
    go : (i : ℕ) → i ≤ length l → concat_below f i ≡ all_numbers g (take i l)
    go zero b = refl
    go (suc i) b =
        ap₂ ◌++◌ (go i (omega arith)) (h i b ∙ sym (append-nil (g (get_or l i other))))
        ∙ sym (ap (all_numbers g) (take-suc l i other b) ∙ all_numbers-append g (take i l) (get_or l i other ∷ []))
