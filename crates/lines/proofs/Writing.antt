-- Lists that are written into a buffer one after the other, as the functions write them: there is
-- room for each, and together they are the whole. On plain numbers and lists: nothing here speaks
-- of the code.
use mathlib.Core.Path.{◌≡◌, refl, sym, ap, ◌∙◌}
use mathlib.Core.List.{List, [], ◌∷◌, ◌++◌}
use Prim.Native.Nat.{ℕ, ◌+◌, ◌/◌, ◌%◌, ◌≤◌, ◌<◌}
use native.Mathlib.Omega.{arith}
use native.Mathlib.Nat.{zero-add}
use native.Mathlib.Numerals.{add-one}
use lib.ListN.{length, get_or, drop, set, length-append}
use lib.Seq.{set_split, drop-cons}
use Rattle.std.proofs.lemmas.List.{drop_all}
use Rattle.number.specs.Number.{splice}
use Rattle.number.proofs.laws.Splice.{length-splice, splice_nothing, splice-splice}
use Rattle.lines.specs.declared.Line.{Line}
use Rattle.lines.specs.declared.Line.TheVariants.{Sheet, Text, Accepted}
use Rattle.lines.specs.Decimal.{digit, decimal}
use Rattle.lines.specs.Lines.{sheet_word, text_word, accepted_word, numbers_bytes, line_bytes}
use Rattle.lines.proofs.laws.DecimalLaws.{decimal_one, decimal-more}

-- ---- a byte, and a word byte by byte

pub byte_put : (d : List ℕ) (at b : ℕ) → at < length d → set d at b ≡ splice d at (b ∷ [])
unfolding splice
byte_put d at b h = rw (add-one at) (set_split d at b h)

-- ---- two lists

-- g is e and then f.
pub record Joined (e f g : List ℕ) : Type 0 where
  pub is : g ≡ e ++ f

-- g has room. In p, e is written, and r is the place after it.
module _ (d : List ℕ) (at : ℕ) {e f g : List ℕ} (j : Joined e f g)
    (room : at + length g ≤ length d) where
  whole : length g ≡ length e + length f
  whole = ap length j.is ∙ length-append e f

  pub first_room : at + length e ≤ length d
  first_room = omega (arith, whole)

  module _ {r : ℕ} {p : List ℕ} (er : r ≡ at + length e) (ep : p ≡ splice d at e) where
    pub second_room : r + length f ≤ length p
    second_room = omega (arith, whole, ap length ep ∙ length-splice d at e first_room)

    pub both_put : {s : ℕ} {q : List ℕ} → s ≡ r + length f → q ≡ splice p r f
        → (s ≡ at + length g) × (q ≡ splice d at g)
    both_put {s} {q} es eq = (
      omega (arith, whole),
      eq ∙ rw (ep, er, splice-splice d at e f (omega (arith, first_room)), j.is),
    )

-- g is to be over the front of d. What is left of it is written into p from a place on.
pub record Left (d g p : List ℕ) (at : ℕ) (rest : List ℕ) : Type 0 where
  pub counted : at + length rest ≡ length g
  pub long : length p ≡ length d
  pub same : splice p at rest ≡ splice d 0 g

module _ (d g : List ℕ) (room : length g ≤ length d) where
  pub left_room : {p : List ℕ} {at : ℕ} {e f rest : List ℕ} → Joined e f rest → Left d g p at rest → at + length e ≤ length p
  left_room {p} {at} {e} {f} j l =
      omega (arith, l.counted, l.long, ap length j.is ∙ length-append e f)

  pub left_next : {p : List ℕ} {at : ℕ} {e f rest : List ℕ} → Joined e f rest → Left d g p at rest
      → {r : ℕ} {q : List ℕ} → r ≡ at + length e → q ≡ splice p at e → Left d g q r f
  left_next {p} {at} {e} {f} j l er eq =
      let within = left_room j l in record {
        counted = omega (arith, l.counted, ap length j.is ∙ length-append e f);
        long = ap length eq ∙ length-splice p at e within ∙ l.long;
        same = rw (eq, er, splice-splice p at e f (omega (arith, within))) (ap (splice p at) (sym j.is) ∙ l.same);
      }

  pub left_none : {p : List ℕ} {at : ℕ} → Left d g p at [] → (at ≡ length g) × (p ≡ splice d 0 g)
  left_none {p} {at} l = (omega (arith, l.counted), sym (splice_nothing p at) ∙ l.same)

pub left_all : (d g : List ℕ) → Left d g d 0 g
left_all d g = record { counted = omega arith; long = refl; same = refl }

-- ---- what the functions join

pub higher_digits : (n : ℕ) → 10 ≤ n → Joined (decimal (n / 10)) (digit (n % 10) ∷ []) (decimal n)
higher_digits n h = record { is = decimal-more n h }

pub blank_first : (n : ℕ) → Joined (32 ∷ []) (decimal n) (32 ∷ decimal n)
blank_first n = record { is = refl }

-- At the i-th number of a list, what it makes and what the numbers after it make are left.
pub number_at : (numbers : List ℕ) (i : ℕ) → i < length numbers
    → Joined (32 ∷ decimal (get_or numbers i 0)) (numbers_bytes (drop (i + 1) numbers)) (numbers_bytes (drop i numbers))
unfolding numbers_bytes
number_at numbers i h = record { is = rw (drop-cons numbers i 0 h, add-one i) refl }

-- Past the last, the line end is left.
pub end_at : (numbers : List ℕ) (i : ℕ) → length numbers ≤ i → Joined (10 ∷ []) [] (numbers_bytes (drop i numbers))
unfolding numbers_bytes
end_at numbers i h = record { is = rw (drop_all i numbers h) refl }

pub word_first : (word rest : List ℕ) → Joined word rest (word ++ rest)
word_first word rest = record { is = refl }

-- ---- a number of one digit

module _ (d : List ℕ) (at n : ℕ) (h : n < 10) (room : at + length (decimal n) ≤ length d) where
  only_digit : decimal n ≡ digit (n % 10) ∷ []
  only_digit = let e : n % 10 ≡ n = omega arith in rw e (decimal_one n h)

  pub only_room : at < length d
  only_room = omega (arith, ap length only_digit)

  pub only_put : {s : ℕ} {q : List ℕ} → s ≡ at + 1 → q ≡ splice d at (digit (n % 10) ∷ [])
      → (s ≡ at + length (decimal n)) × (q ≡ splice d at (decimal n))
  only_put es eq = rw only_digit (es, eq)

-- ---- a line

front_put : (d e : List ℕ) → splice d 0 e ≡ e ++ drop (length e) d
unfolding splice
front_put d e = rw (zero-add (length e))

pub line_put : (l : Line) (e d : List ℕ) {r : ℕ} {p : List ℕ}
    → line_bytes l ≡ e → r ≡ length e → p ≡ splice d 0 e
    → (r ≡ length (line_bytes l)) × (p ≡ line_bytes l ++ drop (length (line_bytes l)) d)
line_put l e d is er ep = rw is (er, ep ∙ front_put d e)

pub sheet_line : (l : Line) (number place : ℕ) → l ≡ Sheet number place → {n : ℕ} → n ≡ number
    → line_bytes l ≡ sheet_word ++ numbers_bytes (n ∷ place ∷ [])
unfolding line_bytes
sheet_line l number place e same = rw (e, same)

pub text_line : (l : Line) (number place : ℕ) → l ≡ Text number place → {n : ℕ} → n ≡ number
    → line_bytes l ≡ text_word ++ numbers_bytes (n ∷ place ∷ [])
unfolding line_bytes
text_line l number place e same = rw (e, same)

pub accepted_line : (l : Line) (count : ℕ) → l ≡ Accepted count
    → line_bytes l ≡ accepted_word ++ numbers_bytes (count ∷ [])
unfolding line_bytes
accepted_line l count e = rw e
