-- Reading numbers from the left, one field after the other: what was read and the next place, or the question that fails
-- and its place. Sheets and images are both read so.
use Rattle.std.specs.Prelude.{Bool, cond, ◌&&◌, List, [], ◌∷◌, ℕ, zero, suc, ◌+◌, leb, Option, Some, None}
use Rattle.number.specs.declared.Number.{Number}

pub data Reading (A : Type 0) : Type 0 where
  -- the number of the question that fails, and its place
  stop : ℕ → ℕ → Reading A
  -- what was read, and the place of the number after it
  got : A → ℕ → Reading A

-- Go on with what was read, from its next place; a refusal stays.
abbrev pub and_then : {A B : Type 0} → Reading A → (A → ℕ → Reading B) → Reading B
and_then (stop question place) next = stop question place
and_then (got a place) next = next a place

-- Whether a value lies in a range, both ends included.
unfoldable pub between : ℕ → ℕ → ℕ → Bool
between least most v = leb least v && leb v most

-- Is there a number, and then "Is its value allowed in its field?": each has its own question number, and the number's first byte as its
-- place. A missing number's place is the input's length, which is where its first byte would stand.
unfoldable pub field_of : ℕ → ℕ → (ℕ → Bool) → ℕ → Option Number → Reading ℕ
field_of unreadable forbidden allowed at None = stop unreadable at
field_of unreadable forbidden allowed at (Some n) = cond (allowed n.value) (got n.value (at + n.used)) (stop forbidden at)

-- The same of the number at a place of some bytes. Which bytes are a number there is the caller's: a sheet's may be padded, an image's not.
unfoldable pub read_field : (List ℕ → ℕ → Option Number) → ℕ → ℕ → (ℕ → Bool) → List ℕ → ℕ → Reading ℕ
read_field number unreadable forbidden allowed bytes at = field_of unreadable forbidden allowed at (number bytes at)

-- So many things in a row. What was read so far decides how the next is read, by a state.
unfoldable pub read_many : {S A : Type 0} → (S → ℕ → Reading A) → (S → A → S) → S → ℕ → ℕ → Reading (List A)
read_many one update s zero at = got [] at
read_many one update s (suc n) at =
    and_then (one s at) (λ a next. and_then (read_many one update (update s a) n next) (λ l end. got (a ∷ l) end))
