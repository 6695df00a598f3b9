-- The laws of numbers, for readers of the definitions and for other crates to cite: reading finds just what is written in groups, and
-- tells whether the bytes were the fewest; nothing past the end is looked at, and no two numbers share their bytes. What writing leaves
-- in a buffer is in `Splice`.
use Rattle.std.specs.Prelude.{ℕ, zero, suc, ◌+◌, ◌^◌, ◌≤◌, ◌<◌, ◌≡◌, refl, Bool, true, false, cond, List, [], ◌++◌, ◌↔◌, length, get_or, take, drop, Option, Some, None}
use Rattle.std.proofs.Common.{sym, ap, ap₂, subst, ◌∙◌, ⊎_elim, arith, length-take, length-drop, take-append-drop, get_or-drop, length-take-le}
use Rattle.std.proofs.Math.Seq.{drop-append-add}
use Rattle.basics.proofs.laws.Order.{lt-or-le}
use Rattle.number.specs.Number.{InGroups, whole, count, value, highest, front, fewest, number_from, decode, unpadded, decode_fewest, encode_in, encode, read}
use Rattle.number.proofs.laws.Groups.{count_positive, judged-read, fewest_alone, fewest_is, found}
pub use Rattle.number.proofs.laws.Groups.{refused_read, read_same}
use Rattle.number.proofs.laws.Groups.{front_within, front-kept, front_small, groups_in_front, front_in_groups, groups_same, one_wider}
use Rattle.number.proofs.laws.Groups.{encode_in_groups, encode_in-fewest, fewest_as_many, as_many_fewest, length-encode_in, encode_in_there, encode_in_bytes}
use Rattle.number.specs.declared.Number.{Number}

-- ---- the bytes of a number

-- A number takes one byte at least and ten at most, and each is a byte.
pub encode_there : (n : ℕ) → 1 ≤ length (encode n)
unfolding encode
encode_there n = encode_in_there 9 n

pub encode_ten : (n : ℕ) → length (encode n) ≤ 10
unfolding encode
encode_ten n = length-encode_in 10 n

pub encode_bytes : (n i : ℕ) → get_or (encode n) i 0 < 256
unfolding encode
encode_bytes n i = encode_in_bytes 10 n i

-- It is in groups, and no other groups of the number are fewer.
pub encode_groups : (n : ℕ) → n < 2 ^ 64 → InGroups n (encode n)
unfolding encode
encode_groups n h = encode_in_groups 10 n (omega arith) (omega arith)

pub encode-fewest : {n : ℕ} {bytes : List ℕ} → InGroups n bytes → length (encode n) ≤ length bytes
unfolding encode
encode-fewest {n} {bytes} g =
    ⊎_elim (λ l. omega (arith, length-encode_in 10 n)) (λ l. encode_in-fewest 10 g l) (lt-or-le 10 (length bytes))

-- A number has one way to be written in each count of groups from its fewest on.
pub groups_once : {n : ℕ} {x y : List ℕ} → InGroups n x → InGroups n y → length x ≡ length y → x ≡ y
groups_once g h l = groups_same g h refl l

pub any-width : (n more : ℕ) → n < 2 ^ 64 → (bytes : List ℕ) × InGroups n bytes × (length bytes ≡ length (encode n) + more)
any-width n zero h = (encode n, encode_groups n h, omega arith)
any-width n (suc more) h =
    let g = any-width n more h in
    let w = one_wider g.1 in
    (w.0, w.1, omega (arith, w.2, g.2))

-- ---- which bytes a reading looks at

-- A part of some bytes has the length that was asked for, where so many are there.
pub length_part : (s : List ℕ) (at n : ℕ) → at + n ≤ length s → length (take n (drop at s)) ≡ n
length_part s at n h = length-take-le n (drop at s) (omega (arith, length-drop at s))

-- Only those from the place on.
pub decode_from : (p s : List ℕ) (k : ℕ) → decode (p ++ s) (length p + k) ≡ decode s k
unfolding decode
decode_from p s k = rw (drop-append-add p s k)

-- What is read lies within the bytes, has one to ten of them, and is below 2^64.
pub record Within (s : List ℕ) (at v n : ℕ) : Type 0 where
  pub inside : at + n ≤ length s
  pub some : 1 ≤ n
  pub ten : n ≤ 10
  pub below : v < 2 ^ 64

pub decode_within : (s : List ℕ) (at : ℕ) {v n : ℕ} {p : Bool} → decode s at ≡ read v n p → Within s at v n
unfolding decode
decode_within s at {v} {n} {p} e =
    let f = found (drop at s) e in
    let some = count_positive f.gs in
    record {
      inside = omega (arith, front_within (drop at s) f.gs f.at_front, length-drop at s, f.passed.is_count);
      some = omega (arith, f.passed.is_count);
      ten = omega (arith, f.passed.is_count, f.passed.ten);
      below = omega (arith, f.passed.is_value, f.passed.below);
    }

-- Only those that it used: where the same stand, the same is read.
pub decode-kept : (s : List ℕ) (at : ℕ) (t : List ℕ) (k : ℕ) {v n : ℕ} {p : Bool} → decode s at ≡ read v n p
    → take n (drop k t) ≡ take n (drop at s) → decode t k ≡ read v n p
unfolding decode
decode-kept s at t k {v} {n} {p} e h =
    let f = found (drop at s) e in
    let c : n ≡ count f.gs = f.passed.is_count in
    let a : drop k t ≡ take (count f.gs) (drop at s) ++ drop n (drop k t) =
    sym (take-append-drop n (drop k t)) ∙ ap (λ (l : List ℕ). l ++ drop n (drop k t)) (h ∙ ap (λ (i : ℕ). take i (drop at s)) c) in
    let g : front (drop k t) ≡ front (drop at s) =
    ap front a ∙ front-kept (drop at s) (drop n (drop k t)) f.gs f.at_front ∙ sym f.at_front in
    ap number_from g ∙ e

-- ---- reading what is in groups

-- Whatever is read is in groups.
pub decode_groups : (s : List ℕ) (at : ℕ) {v n : ℕ} {p : Bool} → ((i : ℕ) → get_or s i 0 < 256) → decode s at ≡ read v n p
    → InGroups v (take n (drop at s))
unfolding decode
decode_groups s at {v} {n} hb e =
    let f = found (drop at s) e in
    let g = front_in_groups (drop at s) f.gs (λ i. rw (get_or-drop at s i 0) (hb (at + i))) f.at_front in
    subst (λ (w : ℕ). InGroups v (take w (drop at s))) (sym f.passed.is_count)
    (subst (λ (x : ℕ). InGroups x (take (count f.gs) (drop at s))) (sym f.passed.is_value) g)

-- The answer says whether they are as many as are written.
fewest_as_written : (s : List ℕ) (at : ℕ) {v n : ℕ} {p : Bool} → decode s at ≡ read v n p → (p ≡ true) ↔ (n ≡ length (encode v))
unfolding decode encode
fewest_as_written s at {v} {n} {p} e =
    let f = found (drop at s) e in
    let small = front_small (drop at s) f.gs f.at_front in
    let ten = f.passed.ten in
    let same : length (encode_in 10 (value f.gs)) ≡ length (encode_in 10 v) = ap (λ (x : ℕ). length (encode_in 10 x)) (sym f.passed.is_value) in
    let many = f.passed.is_count in
    let flag = f.passed.is_fewest in (
      λ t. many ∙ fewest_as_many 10 f.gs small ten (fewest_alone (count f.gs) (highest f.gs) (sym flag ∙ t)) ∙ same,
      λ w. flag ∙ fewest_is (count f.gs) (highest f.gs) (as_many_fewest 10 f.gs small ten (sym many ∙ w ∙ sym same)),
    )

-- So it says whether the bytes read were the fewest: no groups of that number are fewer.
pub fewest_exactly : (s : List ℕ) (at : ℕ) {v n : ℕ} {p : Bool} → ((i : ℕ) → get_or s i 0 < 256) → decode s at ≡ read v n p
    → (p ≡ true) ↔ ((bytes : List ℕ) → InGroups v bytes → n ≤ length bytes)
fewest_exactly s at {v} {n} {p} hb e =
    let same = fewest_as_written s at e in
    let w = decode_within s at e in
    let l = length_part s at n w.inside in (
      λ t bytes g. omega (arith, same.0 t, encode-fewest g),
      λ f. same.1 (omega (arith, f (encode v) (encode_groups v w.below), encode-fewest (decode_groups s at hb e))),
    )

-- Whatever stands in at most ten groups and is below 2^64 is read, at any place of any bytes.
pub groups_decode : (s : List ℕ) (at k : ℕ) {n : ℕ} → InGroups n (take k (drop at s)) → at + k ≤ length s → k ≤ 10 → n < 2 ^ 64
    → (p : Bool) × (decode s at ≡ read n k p)
unfolding decode number_from
groups_decode s at k {n} g inside ten below =
    let rest = drop k (drop at s) in
    let f = groups_in_front g rest in
    let l = length_part s at k inside in
    let there = ap front (sym (take-append-drop k (drop at s))) ∙ f.at_front in
    let many : count f.gs ≡ k = f.is_count ∙ l in
    let p = fewest (count f.gs) (highest f.gs) in (
      p,
      ap number_from there
          ∙ judged-read (count f.gs) (highest f.gs) (value f.gs) (omega arith) (omega (arith, f.is_value))
          ∙ ap₂ (λ (x y : ℕ). read x y p) f.is_value many,
    )

-- ---- numbers in the fewest bytes, as an image has them

-- By what the reader found: no number, a padded one, or one in its fewest bytes.
module _ (s : List ℕ) (at : ℕ) where
  pub none-fewest : decode s at ≡ None → decode_fewest s at ≡ None
  unfolding decode_fewest unpadded
  none-fewest e = rw e

  pub padded_refused : {v n : ℕ} {p : Bool} → decode s at ≡ read v n p → p ≡ false → decode_fewest s at ≡ None
  unfolding decode_fewest unpadded
  padded_refused e h = rw (e, h)

  pub fewest-read : {v n : ℕ} {p : Bool} → decode s at ≡ read v n p → p ≡ true → decode_fewest s at ≡ read v n p
  unfolding decode_fewest unpadded
  fewest-read e h = rw (e, h)

-- What is read there is read with the fewest bytes.
unpadded-read : (m : Option Number) {v n : ℕ} {p : Bool} → unpadded m ≡ read v n p → m ≡ read v n true
unfolding unpadded
unpadded-read None e = refused_read e
unpadded-read (Some r) {v} {n} {p} e = by_flag r.fewest refl e
  where
    by_flag : (b : Bool) → r.fewest ≡ b → cond b (Some r) None ≡ read v n p → Some r ≡ read v n true
    by_flag true h e = e ∙ ap (λ (b : Bool). read v n b) (sym (read_same e).2 ∙ h)
    by_flag false h e = refused_read e

module _ (s : List ℕ) (at : ℕ) {v n : ℕ} {p : Bool} (e : decode_fewest s at ≡ read v n p) where
  pub decode-unpadded : decode s at ≡ read v n true
  unfolding decode_fewest
  decode-unpadded = unpadded-read (decode s at) e

  pub fewest_within : Within s at v n
  fewest_within = decode_within s at decode-unpadded

  -- It takes as many bytes as writing it would, and they are the bytes of its value: a padded number is never read there.
  pub fewest-width : n ≡ length (encode v)
  fewest-width = (fewest_as_written s at decode-unpadded).0 refl

  pub fewest_bytes : ((i : ℕ) → get_or s i 0 < 256) → take n (drop at s) ≡ encode v
  fewest_bytes hb =
      let w = fewest_within in
      groups_once (decode_groups s at hb decode-unpadded) (encode_groups v w.below) (length_part s at n w.inside ∙ fewest-width)

-- Where the bytes of a number stand, that number is read.
pub decode_there : (s : List ℕ) (at n : ℕ) → n < 2 ^ 64 → take (length (encode n)) (drop at s) ≡ encode n
    → decode s at ≡ read n (length (encode n)) true
decode_there s at n h e =
    let w = encode_ten n in
    let i : at + length (encode n) ≤ length s = omega (arith, ap length e, length-take (length (encode n)) (drop at s), length-drop at s, encode_there n) in
    let r = groups_decode s at (length (encode n)) (subst (InGroups n) (sym e) (encode_groups n h)) i w h in
    r.1 ∙ ap (λ (p : Bool). read n (length (encode n)) p) ((fewest_as_written s at r.1).1 refl)

pub fewest_there : (s : List ℕ) (at n : ℕ) → n < 2 ^ 64 → take (length (encode n)) (drop at s) ≡ encode n
    → decode_fewest s at ≡ read n (length (encode n)) true
unfolding decode_fewest unpadded
fewest_there s at n h e = rw (decode_there s at n h e)

-- ---- no two numbers share their bytes

-- No number's groups are the beginning of another's, or of the same number's in another count.
pub groups_prefix : {m n : ℕ} {x y : List ℕ} (a b : List ℕ) → InGroups m x → InGroups n y → x ++ a ≡ y ++ b → (m ≡ n) × (x ≡ y)
groups_prefix {m} {n} {x} {y} a b g h e =
    let f = groups_in_front g a in
    let k = groups_in_front h b in
    let same : whole f.gs ≡ whole k.gs = sym f.at_front ∙ ap front e ∙ k.at_front in
    let groups : f.gs ≡ k.gs = cc in
    let number : m ≡ n = sym f.is_value ∙ ap value groups ∙ k.is_value in
    (number, groups_same g h number (sym f.is_count ∙ ap count groups ∙ k.is_count))

pub encode_prefix : (m n : ℕ) (a b : List ℕ) → m < 2 ^ 64 → n < 2 ^ 64 → encode m ++ a ≡ encode n ++ b → m ≡ n
encode_prefix m n a b hm hn e = (groups_prefix a b (encode_groups m hm) (encode_groups n hn) e).0

-- Padded groups of a number do not begin with the bytes of any number.
pub padded_apart : {n : ℕ} {x : List ℕ} → InGroups n x → length (encode n) < length x → (m : ℕ) (a b : List ℕ) → m < 2 ^ 64
    → x ++ a ≡ encode m ++ b → ⊥
padded_apart {n} {x} g l m a b h e =
    let same = groups_prefix a b g (encode_groups m h) e in
    omega (arith, ap length same.1, ap (λ (k : ℕ). length (encode k)) same.0)

pub encode_injective : (m n : ℕ) → m < 2 ^ 64 → n < 2 ^ 64 → encode m ≡ encode n → m ≡ n
encode_injective m n hm hn e = encode_prefix m n [] [] hm hn (ap (λ (l : List ℕ). l ++ []) e)
