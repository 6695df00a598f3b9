-- The laws of writing: what a buffer holds after one number, or after several one after another, was written into it.
-- Lists of numbers are not defined here: a caller joins the bytes of its numbers by `splice-splice`.
use Rattle.std.specs.Prelude.{ℕ, ◌+◌, ◌≤◌, ◌<◌, ◌≡◌, refl, List, [], ◌++◌, take, drop, Some, None}
use Rattle.std.proofs.Common.{sym, ap, ap₂, ◌∙◌, append_assoc, ⊎_elim, arith, add_assoc, length-append, length-take, length-drop, take-append-drop, take_at, drop_at, le-leb}
use Rattle.std.proofs.Math.ListN.{length}
use Rattle.std.proofs.Math.Seq.{drop-drop}
use Rattle.std.proofs.lemmas.Bool.{lt-leb}
use Rattle.number.specs.Number.{encode, splice, used, written, used_at, written_at}
use Rattle.basics.proofs.laws.Order.{lt-or-le}
use Rattle.number.proofs.laws.Laws.{encode_there}

-- ---- replacing the bytes from a place on

pub length-splice : (d : List ℕ) (at : ℕ) (e : List ℕ) → at + length e ≤ length d → length (splice d at e) ≡ length d
unfolding splice
length-splice d at e h = simp (length-append, length-take, length-drop) (omega arith)

pub splice_nothing : (d : List ℕ) (at : ℕ) → splice d at [] ≡ d
unfolding splice
splice_nothing d at = rw (add_zero at) (take-append-drop at d)
  where
    add_zero : (n : ℕ) → n + 0 ≡ n
    add_zero n = omega arith

-- Up to its end: what stood before the place, then the list.
pub take-splice : (d : List ℕ) (at : ℕ) (e : List ℕ) → at ≤ length d → take (at + length e) (splice d at e) ≡ take at d ++ e
unfolding splice
take-splice d at e h =
    let l : length (take at d ++ e) ≡ at + length e = simp (length-append, length-take) (omega arith) in
    rw (← append_assoc (take at d) e (drop (at + length e) d)) (take_at (take at d ++ e) (drop (at + length e) d) (at + length e) l)

-- From its end on: what stood there.
pub drop-splice : (d : List ℕ) (at : ℕ) (e : List ℕ) → at ≤ length d → drop (at + length e) (splice d at e) ≡ drop (at + length e) d
unfolding splice
drop-splice d at e h =
    let l : length (take at d ++ e) ≡ at + length e = simp (length-append, length-take) (omega arith) in
    rw (← append_assoc (take at d) e (drop (at + length e) d)) (drop_at (take at d ++ e) (drop (at + length e) d) (at + length e) l)

-- One list after another: the second is written where the first ended.
splice_is : (d : List ℕ) (at : ℕ) (e : List ℕ) → splice d at e ≡ take at d ++ (e ++ drop (at + length e) d)
unfolding splice
splice_is d at e = refl

pub splice-splice : (d : List ℕ) (at : ℕ) (e f : List ℕ) → at ≤ length d → splice (splice d at e) (at + length e) f ≡ splice d at (e ++ f)
splice-splice d at e f h =
    let n : at + length e + length f ≡ at + length (e ++ f) = rw (length-append e f) (add_assoc at (length e) (length f)) in
    let a : drop (at + length e + length f) (splice d at e) ≡ drop (at + length (e ++ f)) d =
    sym (drop-drop (length f) (at + length e) (splice d at e))
    ∙ ap (drop (length f)) (drop-splice d at e h)
    ∙ drop-drop (length f) (at + length e) d
    ∙ ap (λ (i : ℕ). drop i d) n in
    let z = drop (at + length (e ++ f)) d in
    let b : (take at d ++ e) ++ (f ++ z) ≡ take at d ++ ((e ++ f) ++ z) = simp append_assoc in
    splice_is (splice d at e) (at + length e) f
    ∙ ap₂ (λ (x y : List ℕ). x ++ (f ++ y)) (take-splice d at e h) a
    ∙ b
    ∙ sym (splice_is d at (e ++ f))

-- ---- writing one number into a part

module _ (part : List ℕ) (n : ℕ) where
  pub written_fits : length (encode n) ≤ length part → written part n ≡ encode n ++ drop (length (encode n)) part
  unfolding written
  written_fits h = rw (le-leb (length (encode n)) (length part))

  pub used_fits : length (encode n) ≤ length part → used part n ≡ Some (length (encode n))
  unfolding used
  used_fits h = rw (le-leb (length (encode n)) (length part))

  pub written_short : length part < length (encode n) → written part n ≡ part
  unfolding written
  written_short h = rw (lt-leb (length (encode n)) (length part))

  pub used_short : length part < length (encode n) → used part n ≡ None
  unfolding used
  used_short h = rw (lt-leb (length (encode n)) (length part))

  pub length-written : length (written part n) ≡ length part
  length-written = ⊎_elim
      (λ h. ap length (written_short h))
      (λ h. ap length (written_fits h) ∙ simp (length-append, length-drop) (omega arith))
      (lt-or-le (length part) (length (encode n)))

-- ---- writing one number into what remains of a buffer

module _ (d : List ℕ) (at n : ℕ) where
  pub written_at_fits : at + length (encode n) ≤ length d → written_at d at n ≡ splice d at (encode n)
  unfolding written_at splice
  written_at_fits h =
      let l : length (encode n) ≤ length (drop at d) = rw (length-drop at d) (omega arith) in
      rw (written_fits (drop at d) n l, drop-drop (length (encode n)) at d)

  pub used_at_fits : at + length (encode n) ≤ length d → used_at d at n ≡ Some (length (encode n))
  unfolding used_at
  used_at_fits h = used_fits (drop at d) n (rw (length-drop at d) (omega arith))

  pub written_at_short : length d < at + length (encode n) → written_at d at n ≡ d
  unfolding written_at
  written_at_short h =
      let l : length (drop at d) < length (encode n) = rw (length-drop at d) (omega (arith, encode_there n)) in
      rw (written_short (drop at d) n l) (take-append-drop at d)

  pub used_at_short : length d < at + length (encode n) → used_at d at n ≡ None
  unfolding used_at
  used_at_short h = used_short (drop at d) n (rw (length-drop at d) (omega (arith, encode_there n)))

  -- The answer tells which of the two it was.
  pub used_at-none : used_at d at n ≡ None → length d < at + length (encode n)
  used_at-none e = ⊎_elim (λ h. h) (λ h. let k : Some (length (encode n)) ≡ None = sym (used_at_fits h) ∙ e in cc) (lt-or-le (length d) (at + length (encode n)))

  pub used_at-some : {w : ℕ} → used_at d at n ≡ Some w → at + length (encode n) ≤ length d
  used_at-some {w} e = ⊎_elim (λ h. let k : None ≡ Some w = sym (used_at_short h) ∙ e in cc) (λ h. h) (lt-or-le (length d) (at + length (encode n)))

  pub length-written_at : length (written_at d at n) ≡ length d
  length-written_at = ⊎_elim
      (λ h. ap length (written_at_short h))
      (λ h. ap length (written_at_fits h) ∙ length-splice d at (encode n) h)
      (lt-or-le (length d) (at + length (encode n)))
