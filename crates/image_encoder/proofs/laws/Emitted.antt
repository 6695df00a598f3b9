-- What writing numbers one after the other leaves: the cursor moves past their bytes in any case, and where they fit, the buffer
-- holds them. So the same code measures and writes.
use Rattle.std.specs.Prelude.{◌≡◌, refl, List, [], ◌∷◌, ◌++◌, ℕ, ◌+◌, ◌≤◌, ◌<◌, length, take, drop}
use Rattle.std.proofs.Common.{sym, ap, ap₂, subst, ◌∙◌, append_assoc, append-nil, arith, length-append, take_at, drop_at, drop-drop, length-take-le}
use Rattle.number.specs.Number.{last_group, encode, splice, written_at}
use Rattle.number.proofs.laws.Laws.{encode_there, encode-fewest}
use Rattle.number.proofs.laws.Splice.{splice_nothing, splice-splice, written_at_fits, length-written_at}
use Rattle.sheet.specs.Spelling.{spell}
use Rattle.sheet.proofs.laws.FieldLaws.{spell-append}
use Rattle.image_encoder.specs.laws.Emitted.{Emitted}

pub emitted_none : (d : List ℕ) (at : ℕ) → Emitted d d at at []
unfolding spell
emitted_none d at = record { cursor = omega arith; same_length = refl; bytes = λ h. sym (splice_nothing d at) }

-- Some numbers after others.
pub emitted_append : {a b c : List ℕ} {i j k : ℕ} {ms ns : List ℕ} → Emitted a b i j ms → Emitted b c j k ns → Emitted a c i k (ms ++ ns)
emitted_append {a} {b} {c} {i} {j} {k} {ms} {ns} f g =
    let e = spell-append ms ns in
    let l : length (spell (ms ++ ns)) ≡ length (spell ms) + length (spell ns) = ap length e ∙ length-append (spell ms) (spell ns) in record {
      cursor = omega (arith, f.cursor, g.cursor);
      same_length = g.same_length ∙ f.same_length;
      bytes = λ h.
          let first = f.bytes (omega arith) in
          let second = g.bytes (omega (arith, f.same_length, f.cursor)) in
          second ∙ ap (λ (n : ℕ). splice b n (spell ns)) f.cursor
          ∙ ap (λ (d : List ℕ). splice d (i + length (spell ms)) (spell ns)) first
          ∙ splice-splice a i (spell ms) (spell ns) (omega arith) ∙ ap (splice a i) (sym e);
    }

-- One number.
pub emitted_one : {a b : List ℕ} {i j n : ℕ} → b ≡ written_at a i n → j ≡ i + length (encode n) → Emitted a b i j (n ∷ [])
unfolding spell
emitted_one {a} {b} {i} {j} {n} e k =
    let s = append-nil (encode n) in
    let l = ap length s in record {
      cursor = omega arith;
      same_length = ap length e ∙ length-written_at a i n;
      bytes = λ h. e ∙ written_at_fits a i n (omega arith) ∙ ap (splice a i) (sym s);
    }

-- All numbers into a whole buffer.
pub emitted_all : {a b : List ℕ} {j : ℕ} {ns : List ℕ} → Emitted a b 0 j ns → length (spell ns) ≤ length a
    → b ≡ spell ns ++ drop (length (spell ns)) a
unfolding splice
emitted_all {a} {b} {j} {ns} f h = f.bytes (omega arith) ∙ ap (λ (n : ℕ). spell ns ++ drop n a) (let z : 0 + length (spell ns) ≡ length
    (spell ns) = omega arith in z)

pub emitted_same : {a b : List ℕ} {i j : ℕ} {ms ns : List ℕ} → ms ≡ ns → Emitted a b i j ms → Emitted a b i j ns
emitted_same {a} {b} {i} {j} e f = subst (Emitted a b i j) e f

-- A number over one of the same width, in front of those that were written after it.
splice_over : (d x y s : List ℕ) (at : ℕ) → length x ≡ length y → at + length (x ++ s) ≤ length d
    → splice (splice d at (x ++ s)) at y ≡ splice d at (y ++ s)
unfolding splice
splice_over d x y s at same room =
    let front : length (take at d) ≡ at = length-take-le at d (omega (arith, length-append x s)) in
    let rest = drop (at + length (x ++ s)) d in
    let ends : at + length (x ++ s) ≡ at + length (y ++ s) = omega (arith, length-append x s, length-append y s) in
    let a : take at (take at d ++ ((x ++ s) ++ rest)) ≡ take at d = take_at (take at d) ((x ++ s) ++ rest) at front in
    let b : drop (at + length y) (take at d ++ ((x ++ s) ++ rest)) ≡ s ++ rest =
    sym (drop-drop (length y) at (take at d ++ ((x ++ s) ++ rest)))
    ∙ ap (drop (length y)) (drop_at (take at d) ((x ++ s) ++ rest) at front ∙ append_assoc x s rest)
    ∙ drop_at x (s ++ rest) (length y) same in
    ap₂ (λ (k l : List ℕ). k ++ (y ++ l)) a b
    ∙ ap (λ (l : List ℕ). take at d ++ l) (sym (append_assoc y s rest))
    ∙ ap (λ (n : ℕ). take at d ++ ((y ++ s) ++ drop n d)) ends

-- A number that is known only after those behind it are written: another one kept its place, and had as many bytes.
pub emitted_over : {a b c d : List ℕ} {i j k l : ℕ} {m n : ℕ} {ns : List ℕ} → length (encode m) ≡ length (encode n)
    → Emitted a b i j (m ∷ []) → Emitted b c j k ns → Emitted c d i l (n ∷ []) → Emitted a d i k (n ∷ ns)
unfolding spell
emitted_over {a} {b} {c} {d} {i} {j} {k} {l} {m} {n} {ns} same f g h =
    let both = emitted_append f g in
    let one = append-nil (encode n) in
    let w : length (spell (n ∷ ns)) ≡ length (encode n) + length (spell ns) = length-append (encode n) (spell ns) in
    let v : length (spell (m ∷ ns)) ≡ length (encode m) + length (spell ns) = length-append (encode m) (spell ns) in record {
      cursor = omega (arith, both.cursor);
      same_length = h.same_length ∙ both.same_length;
      bytes = λ room.
          h.bytes (omega (arith, ap length one, both.same_length))
          ∙ ap₂ (λ (x y : List ℕ). splice x i y) (both.bytes (omega arith)) one
          ∙ splice_over a (encode m) (encode n) (spell ns) i same (omega arith);
    }

-- Numbers below 128 have one byte.
pub one_byte : (n : ℕ) → n < 128 → length (encode n) ≡ 1
one_byte n small = omega (arith, encode-fewest (last_group small), encode_there n)
