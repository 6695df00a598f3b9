-- Laws of an image's fields: when one is read, what is then known of it, and how two tests of a value compare.
use mathlib.Core.Path.{◌≡◌, refl, sym, ap, ap₂, ◌∙◌}
use mathlib.Core.Bool.{Bool, true, false, cond, ◌&&◌}
use mathlib.Core.List.{List, [], ◌∷◌}
use Prim.Native.Nat.{ℕ, ◌+◌, ◌-◌, ◌^◌, ◌≤◌, ◌<◌}
use native.Mathlib.Omega.{arith}
use lib.ListN.{length, get_or, take, drop}
use lib.Seq.{get_or-take, get_or-drop}
use lib.Dec.{leb, ltb}
use lib.Pow.{pow_pos}
use borrow.Author.Tests.{lt-ltb, le-ltb, le-leb, lt-leb, leb-true}
use Rattle.basics.proofs.laws.Truth.{and-true-first, and-true-second}
use Rattle.basics.proofs.laws.Order.{lt-or-le}
use mathlib.Core.Logic.{⊎_elim}
use Rattle.std.specs.Prelude.{Option, None, Some}
use Rattle.number.specs.Number.{decode_fewest, encode, encode_in, read}
use Rattle.number.proofs.laws.Laws.{fewest_within, fewest_bytes, fewest-width}
use Rattle.number.specs.declared.Number.{Number}
use Rattle.sheet.specs.Field.{Reading, stop, got, and_then, between}
use Rattle.image.specs.ImageReading.{image_field}
use Rattle.image_reader.proofs.Parts.{between_is, field_missing, field-number}

-- ---- a test of a range

pub between_in : (l m v : ℕ) → l ≤ v → v ≤ m → between l m v ≡ true
between_in l m v h k = between_is l m v ∙ ap₂ (λ (a b : Bool). a && b) (le-leb l v h) (le-leb v m k)

pub between_low : (l m v : ℕ) → v < l → between l m v ≡ false
between_low l m v h = between_is l m v ∙ ap (λ (a : Bool). a && leb v m) (lt-leb l v h)

pub between_high : (l m v : ℕ) → m < v → between l m v ≡ false
between_high l m v h = between_is l m v ∙ go (leb l v)
  where
    go : (b : Bool) → (b && leb v m) ≡ false
    go true = lt-leb v m h
    go false = refl

pub between_range : (l m v : ℕ) → between l m v ≡ true → (l ≤ v) × (v ≤ m)
between_range l m v e =
    let h = sym (between_is l m v) ∙ e in
    (leb-true l v (and-true-first (leb l v) (leb v m) h), leb-true v m (and-true-second (leb l v) (leb v m) h))

-- ---- what was read

pub field-allowed : (p : ℕ → Bool) (bytes : List ℕ) (at : ℕ) {v n : ℕ} {f : Bool} → decode_fewest bytes at ≡ read v n f → p v ≡ true
    → image_field p bytes at ≡ got v (at + n)
field-allowed p bytes at {v} {n} e h = field-number bytes p at e ∙ ap (λ (b : Bool). cond b (got v (at + n)) (stop 13 at)) h

pub field_forbidden : (p : ℕ → Bool) (bytes : List ℕ) (at : ℕ) {v n : ℕ} {f : Bool} → decode_fewest bytes at ≡ read v n f → p v ≡ false
    → image_field p bytes at ≡ stop 13 at
field_forbidden p bytes at {v} {n} e h = field-number bytes p at e ∙ ap (λ (b : Bool). cond b (got v (at + n)) (stop 13 at)) h

pub stop_got : {A X : Type 0} {q p n : ℕ} {a : A} → ◌≡◌ {A = Reading A} (stop q p) (got a n) → X
stop_got {A} {X} {q} {p} {n} {a} e = let z : ◌≡◌ {A = ℕ} 0 1 = cc in absurd (omega arith)

-- What is known of a field that was read.
pub record FieldGot (p : ℕ → Bool) (bytes : List ℕ) (at v next : ℕ) : Type 0 where
  pub used : ℕ
  pub fewest : Bool
  pub number : decode_fewest bytes at ≡ read v used fewest
  pub allowed : p v ≡ true
  pub after : next ≡ at + used

pub field_got : (p : ℕ → Bool) (bytes : List ℕ) (at : ℕ) {v next : ℕ} → image_field p bytes at ≡ got v next → FieldGot p bytes at v next
field_got p bytes at {v} {next} h = by_number (decode_fewest bytes at) refl
  where
    by_test : (w u : ℕ) (f b : Bool) → decode_fewest bytes at ≡ read w u f → p w ≡ b → cond b (got w (at + u)) (stop 13 at) ≡ got v next
        → FieldGot p bytes at v next
    by_test w u f true e k g =
        let same : w ≡ v = cc in
        record { used = u; fewest = f; number = e ∙ ap (λ (x : ℕ). read x u f) same; allowed = ap p (sym same) ∙ k; after = cc }
    by_test w u f false e k g = stop_got g

    by_number : (n : Option Number) → decode_fewest bytes at ≡ n → FieldGot p bytes at v next
    by_number None e = stop_got (sym (field_missing bytes p at e) ∙ h)
    by_number (Some n) e = by_test n.value n.used n.fewest (p n.value) e refl (sym (field-number bytes p at e) ∙ h)

pub field_range : (l m : ℕ) (bytes : List ℕ) (at : ℕ) {v next : ℕ} → image_field (between l m) bytes at ≡ got v next → (l ≤ v) × (v ≤ m)
field_range l m bytes at {v} e = between_range l m v (field_got (between l m) bytes at e).allowed

-- A field that was read lies within the bytes.
pub field-inside : (p : ℕ → Bool) (bytes : List ℕ) (at : ℕ) {v next : ℕ} → image_field p bytes at ≡ got v next → next ≤ length bytes
field-inside p bytes at e =
    let g = field_got p bytes at e in
    omega (arith, (fewest_within bytes at g.number).inside, g.after)

-- ---- two tests of one field

-- Tests that agree read alike.
pub field_same : (p q : ℕ → Bool) (bytes : List ℕ) (at : ℕ) → ((v : ℕ) → p v ≡ q v) → image_field p bytes at ≡ image_field q bytes at
field_same p q bytes at h = go (decode_fewest bytes at) refl
  where
    go : (n : Option Number) → decode_fewest bytes at ≡ n → image_field p bytes at ≡ image_field q bytes at
    go None e = field_missing bytes p at e ∙ sym (field_missing bytes q at e)
    go (Some n) e =
        field-number bytes p at e ∙ ap (λ (b : Bool). cond b (got n.value (at + n.used)) (stop 13 at)) (h n.value) ∙ sym (field-number bytes q at e)

-- A second test after the first: what fails it is refused at the number's place.
pub field_both : (p q : ℕ → Bool) (bytes : List ℕ) (at : ℕ)
    → image_field (λ v. p v && q v) bytes at ≡ and_then (image_field p bytes at) (λ v next. cond (q v) (got v next) (stop 13 at))
field_both p q bytes at = go (decode_fewest bytes at) refl
  where
    second : ℕ → ℕ → Reading ℕ
    second v next = cond (q v) (got v next) (stop 13 at)

    both : (v next : ℕ) (b : Bool) → cond (b && q v) (got v next) (stop 13 at) ≡ and_then (cond b (got v next) (stop 13 at)) second
    both v next true = refl
    both v next false = refl

    go : (n : Option Number) → decode_fewest bytes at ≡ n → image_field (λ v. p v && q v) bytes at ≡ and_then (image_field p bytes at) second
    go None e =
        field_missing bytes (λ v. p v && q v) at e ∙ ap (λ (r : Reading ℕ). and_then r second) (sym (field_missing bytes p at e))
    go (Some n) e =
        field-number bytes (λ v. p v && q v) at e ∙ both n.value (at + n.used) (p n.value)
        ∙ ap (λ (r : Reading ℕ). and_then r second) (sym (field-number bytes p at e))

-- ---- small numbers

encode_small : (v : ℕ) → v < 128 → encode v ≡ v ∷ []
unfolding encode encode_in
encode_small v h = rw (lt-ltb v 128 h)

-- A value below 128 takes one byte, which is the value.
pub record OneByte (bytes : List ℕ) (at v next : ℕ) : Type 0 where
  pub after : next ≡ at + 1
  pub inside : at < length bytes
  pub byte : get_or bytes at 0 ≡ v

pub field_one_byte : (p : ℕ → Bool) (bytes : List ℕ) (at : ℕ) {v next : ℕ} → ((i : ℕ) → get_or bytes i 0 < 256)
    → image_field p bytes at ≡ got v next → v < 128 → OneByte bytes at v next
field_one_byte p bytes at {v} {next} hb e h =
    let g = field_got p bytes at e in
    let w = fewest_within bytes at g.number in
    let u : g.used ≡ 1 = fewest-width bytes at g.number ∙ ap length (encode_small v h) in
    let t : take g.used (drop at bytes) ≡ v ∷ [] = fewest_bytes bytes at g.number hb ∙ encode_small v h in
    let s : take 1 (drop at bytes) ≡ v ∷ [] = sym (ap (λ (n : ℕ). take n (drop at bytes)) u) ∙ t in
    let l : at < length bytes = omega (arith, w.inside) in
    record {
      after = omega (arith, g.after);
      inside = l;
      byte = ap (λ (n : ℕ). get_or bytes n 0) (omega arith) ∙ sym (get_or-drop at bytes 0 0)
          ∙ sym (get_or-take 1 (drop at bytes) 0 0 (omega arith)) ∙ ap (λ (x : List ℕ). get_or x 0 0) s;
    }

-- ---- values below a limit

-- The largest value of a field is one below its limit.
below_limit : (limit : ℕ) → 1 ≤ limit → (v : ℕ) → leb v (limit - 1) ≡ ltb v limit
below_limit limit h v =
    ⊎_elim (λ l. le-leb v (limit - 1) (omega arith) ∙ sym (lt-ltb v limit l))
    (λ l. lt-leb v (limit - 1) (omega arith) ∙ sym (le-ltb v limit l))
    (lt-or-le v limit)

pub between-below : (least limit : ℕ) → 1 ≤ limit → (v : ℕ) → between least (limit - 1) v ≡ (leb least v && ltb v limit)
between-below least limit h v = between_is least (limit - 1) v ∙ ap (λ (b : Bool). leb least v && b) (below_limit limit h v)

-- A rule that must not fall, and lie below the number of rules.
pub field-rule : (bytes : List ℕ) (least rules at : ℕ) → 1 ≤ rules
    → image_field (between least (rules - 1)) bytes at ≡ image_field (λ v. leb least v && ltb v rules) bytes at
field-rule bytes least rules at h =
    field_same (between least (rules - 1)) (λ v. leb least v && ltb v rules) bytes at (between-below least rules h)

pub field-below : (bytes : List ℕ) (limit at : ℕ) → 1 ≤ limit
    → image_field (between 0 (limit - 1)) bytes at ≡ image_field (λ v. ltb v limit) bytes at
field-below bytes limit at h =
    field-rule bytes 0 limit at h
    ∙ field_same (λ v. leb 0 v && ltb v limit) (λ v. ltb v limit) bytes at
    (λ v. ap (λ (b : Bool). b && ltb v limit) (le-leb 0 v (omega arith)))

-- A set of the first positions.
pub field-set : (bytes : List ℕ) (count at : ℕ) {m : ℕ} → m ≡ 2 ^ count - 1
    → image_field (between 0 m) bytes at ≡ image_field (λ v. ltb v (2 ^ count)) bytes at
field-set bytes count at {m} e =
    ap (λ (x : ℕ). image_field (between 0 x) bytes at) e ∙ field-below bytes (2 ^ count) at (omega (arith, pow_pos count))
