-- Which bytes are readable: those that the reader of images accepts, which are those of an image in range; where it stops is the first
-- offence. Bytes have one answer. Which images are in range is not said here (ImageRanges).
use Rattle.std.specs.Prelude.{◌≡◌, Bool, Option, List, [], ◌∷◌, ◌++◌, ◌↔◌, length, get_or, drop, Some, None}
use Rattle.std.proofs.Math.Path.{refl, ap}
use Rattle.std.proofs.Common.{sym, subst, ◌∙◌, ⊎_elim, arith, get_or-append-add}
use Rattle.std.proofs.Math.Bool.{true, false, cond}
use Rattle.std.proofs.Math.Option.{none, some}
use Rattle.std.proofs.Math.Option as maybe
use Prim.Native.Nat.{ℕ, zero, suc, ◌+◌, ◌-◌, ◌≤◌, ◌<◌}
use Rattle.std.proofs.Math.ListN.{get_or-append}
use Rattle.basics.proofs.laws.Order.{lt-or-le}
use Rattle.number.specs.Number.{InGroups, encode, decode_fewest}
use Rattle.number.proofs.laws.Laws.{encode_bytes, padded_apart}
use Rattle.number.specs.declared.Number.{Number}
use Rattle.sheet.specs.Spelling.{spell}
use Rattle.sheet.specs.Field.{Reading, stop, got, and_then, between, field_of, read_field, read_many}
use Rattle.sheet.proofs.laws.FieldLaws.{Bytes, Stands, stands_whole, Outcome, refused, accepted, outcome_got, outcome_stop}
use Rattle.sheet.specs.Format.{Format, done, number, field, made, left_over, no_number, onward}
use Rattle.sheet.proofs.laws.FormatLaws.{judged, asked, read_part, at_end, read, then_same, then_then, answer_one, read_iff}
use Rattle.image.specs.Image.{Image, image_numbers, image_bytes}
use Rattle.image.specs.ImageReading.{image_field, read_flag, read_list, read_position, read_production, read_row, image_end, read_image}
use Rattle.image.specs.ImageFormat.{flag_field, many_fields, counted, position_format, production_format, row_format, image_format}
use Rattle.image.specs.ImageFormat.{Fewest, ReadableAs, FirstOffence}
use Rattle.image.specs.ImageRanges.{InRange}
use Rattle.image.proofs.laws.FormatParts.{Answered, FewestAt, fewest-front, fewest_once, fewest_finds, Leads, unread, through}
use Rattle.image.proofs.laws.ImageParts.{image_lawful}

-- ---- the reader of images reads by the format

module _ (bytes : List ℕ) where
  abbrev part : {A : Type 0} → Format A → ℕ → Reading A
  part f at = read_part (decode_fewest bytes) 13 f at

  -- A part is read by itself, and then what follows it.
  record InTurn {A : Type 0} (f : (X : Type 0) → (A → Format X) → Format X) (one : ℕ → Reading A) : Type 1 where
    turn : (X : Type 0) (next : A → Format X) (at : ℕ) → part (f X next) at ≡ and_then (one at) (λ a end. part (next a) end)

  -- A part of a part, and then what makes the whole of it.
  over : {A B X : Type 0} {f : (X : Type 0) → (A → Format X) → Format X} {one : ℕ → Reading A} → InTurn f one → (next : A → Format X) (at : ℕ)
      (g : A → ℕ → Reading B) (h : B → ℕ → Reading X) → ((a : A) (end : ℕ) → part (next a) end ≡ and_then (g a end) h)
      → part (f X next) at ≡ and_then (and_then (one at) g) h
  over {A} {B} {X} {f} {one} t next at g h e = t.turn X next at ∙ then_same (one at) e ∙ sym (then_then (one at) g h)

  field_turn : (allowed : ℕ → Bool) → InTurn (λ X. field 13 allowed) (image_field allowed bytes)
  unfolding field image_field read_field field_of
  field_turn allowed = record {
    turn = λ X next at. ap (λ (r : Reading ℕ). and_then r (λ v end. part (next v) end)) (by_number at (decode_fewest bytes at));
  }
    where
      by_test : (b : Bool) (v at end : ℕ) → judged (cond b none (some 13)) v at end ≡ cond b (got v end) (stop 13 at)
      by_test true v at end = refl
      by_test false v at end = refl

      by_number : (at : ℕ) (n : Option Number) → asked 13 (λ v. cond (allowed v) none (some 13)) at n ≡ field_of 13 13 allowed at n
      by_number at None = refl
      by_number at (Some n) = by_test (allowed n.value) n.value at (at + n.used)

  flag_turn : InTurn (λ X. flag_field) (read_flag bytes)
  unfolding flag_field read_flag
  flag_turn = record { turn = λ X next at. over (field_turn (between 0 1)) _ at _ _ (λ v end. refl) }

  many_turn : {S A : Type 0} {f : S → (X : Type 0) → (A → Format X) → Format X} {one : S → ℕ → Reading A} (update : S → A → S)
      → ((s : S) → InTurn (f s) (one s)) → (n : ℕ) (s : S) → InTurn (λ X. many_fields (λ s. f s X) update s n) (read_many one update s n)
  unfolding many_fields read_many
  many_turn update t zero s = record { turn = λ X next at. refl }
  many_turn update t (suc n) s = record {
    turn = λ X next at. over (t s) _ at _ _ (λ a mid. over (many_turn update t n (update s a)) _ mid _ _ (λ l end. refl));
  }

  list_turn : {A : Type 0} {f : (X : Type 0) → (A → Format X) → Format X} {one : ℕ → Reading A} → InTurn f one
      → (n : ℕ) → InTurn (λ X. many_fields (λ (s : Bool). f X) (λ s a. s) true n) (read_list one n)
  unfolding read_list
  list_turn t n = many_turn (λ s a. s) (λ s. t) n true

  position_turn : (rules count before : ℕ) → InTurn (λ X. position_format rules count before) (read_position bytes rules count before)
  unfolding position_format read_position
  position_turn rules count before = record {
    turn = λ X next at.
        over (field_turn _) _ at _ _ (λ low m₁. over (field_turn _) _ m₁ _ _ (λ high m₂. over (field_turn _) _ m₂ _ _
        (λ rule m₃. over flag_turn _ m₃ _ _ (λ last m₄. over (field_turn _) _ m₄ _ _ (λ follow m₅. refl)))));
  }

  production_turn : (skips : List Bool) (count least : ℕ) → InTurn (λ X. production_format skips count least) (read_production bytes skips count least)
  unfolding production_format counted read_production
  production_turn skips count least = record {
    turn = λ X next at.
        over (field_turn _) _ at _ _ (λ rule m₁. over (field_turn _) _ m₁ _ _ (λ size m₂. over (list_turn (field_turn _) size) _ m₂ _ _ (λ tail m₃. refl)));
  }

  row_turn : (skips : List Bool) (count : ℕ) → InTurn (λ X. row_format skips count) (read_row bytes skips count)
  unfolding row_format counted read_row
  row_turn skips count = record {
    turn = λ X next at.
        over flag_turn _ at _ _ (λ epsilon m₁. over (field_turn _) _ m₁ _ _ (λ size m₂.
        over (many_turn (λ least p. suc p.head) (production_turn skips count) size 0) _ m₂ _ _ (λ productions m₃. refl)));
  }

  -- A part, and then what follows it up to the last byte.
  onto : {A X : Type 0} {f : (X : Type 0) → (A → Format X) → Format X} {one : ℕ → Reading A} → InTurn f one → (next : A → Format X) (at : ℕ)
      (g : A → ℕ → Reading X) → ((a : A) (end : ℕ) → and_then (part (next a) end) (at_end (length bytes) 13) ≡ g a end)
      → and_then (part (f X next) at) (at_end (length bytes) 13) ≡ and_then (one at) g
  onto {A} {X} {f} {one} t next at g e =
      ap (λ (r : Reading X). and_then r (at_end (length bytes) 13)) (t.turn X next at) ∙ then_then (one at) _ (at_end (length bytes) 13) ∙ then_same (one at) e

  image_turn : read (decode_fewest bytes) (length bytes) 13 13 (image_format done) 0 ≡ read_image bytes
  unfolding image_format counted read_image image_end
  image_turn =
      onto (field_turn _) _ 0 _ (λ version m₁. onto (field_turn _) _ m₁ _ (λ rules m₂. onto (list_turn flag_turn rules) _ m₂ _
      (λ skips m₃. onto (field_turn _) _ m₃ _
      (λ count m₄. onto (many_turn (λ before p. p.rule) (position_turn rules count) count 0) _ m₄ _
      (λ ps m₅. onto (field_turn _) _ m₅ _ (λ first m₆. onto (field_turn _) _ m₆ _
      (λ nonterminals m₇. onto (list_turn (row_turn skips nonterminals) nonterminals) _ m₇ _ (λ rows end. refl))))))))

-- ---- the answer

-- Bytes have one answer: one image or one first offence, and not both.
pub image-answer_one : (bytes : List ℕ) {x y : Reading Image} → Answered bytes (image_format done) 0 x → Answered bytes (image_format done) 0 y → x ≡ y
image-answer_one bytes = answer_one Fewest bytes 13 13 (fewest_once bytes)

-- The reader gives it.
pub read_image_iff : (bytes : List ℕ) → Bytes bytes → (x : Reading Image) → (read_image bytes ≡ x) ↔ Answered bytes (image_format done) 0 x
read_image_iff bytes b x =
    let iff = read_iff Fewest bytes 13 13 (decode_fewest bytes) (fewest_finds bytes b) (fewest_once bytes) (image_format done) 0 (omega arith) x in
    (λ e. iff.0 (image_turn bytes ∙ e), λ a. sym (image_turn bytes) ∙ iff.1 a)

pub readable_one : (bytes : List ℕ) (i j : Image) → ReadableAs bytes i → ReadableAs bytes j → i ≡ j
readable_one bytes i j r q = let e = image-answer_one bytes r q in cc

pub first-offence_one : (bytes : List ℕ) (p q : ℕ) → FirstOffence bytes p → FirstOffence bytes q → p ≡ q
first-offence_one bytes p q x y = let e = image-answer_one bytes x y in cc

-- An answer is 13, within the bytes or at their end, or an image in range, whose bytes they are, with nothing after.
abbrev AnswerIs : List ℕ → Reading Image → Type 0
AnswerIs bytes x =
    Outcome (λ question place. (question ≡ 13) × (place ≤ length bytes)) (λ i end. InRange i × (end ≡ length bytes) × (bytes ≡ image_bytes i)) x

answer_is : (bytes : List ℕ) {x : Reading Image} → Answered bytes (image_format done) 0 x → AnswerIs bytes x
unfolding image_bytes
answer_is bytes a = by_lead ((image_lawful bytes).reads Image done (omega arith) a)
  where
    ended : {i : Image} {mid : ℕ} {x : Reading Image} → InRange i → Stands bytes 0 (image_numbers i) mid → Answered bytes (done i) mid x
        → AnswerIs bytes x
    ended {i} {mid} g s (made e) =
        accepted i mid (g, e, (stands_whole bytes (image_numbers i)).0 (subst (Stands bytes 0 (image_numbers i)) e s))
    ended {mid = mid} g s (left_over l) = refused 13 mid (refl, s.inside)

    by_lead : {x : Reading Image} → Leads bytes InRange image_numbers done 0 x → AnswerIs bytes x
    by_lead (unread {place = place} l) = refused 13 place (refl, l)
    by_lead (through i g s r) = ended g s r

-- Readable bytes are those of an image in range.
pub readable_ranges : (bytes : List ℕ) (i : Image) → ReadableAs bytes i ↔ (InRange i × (bytes ≡ image_bytes i))
unfolding image_bytes
readable_ranges bytes i = (
  λ r. let a = outcome_got (answer_is bytes r) refl in (a.0, a.2),
  λ g. (image_lawful bytes).writes Image done i g.0 ((stands_whole bytes (image_numbers i)).1 g.1) (made refl),
)

-- So an image has one spelling.
pub readable_written : (bytes : List ℕ) (i : Image) → ReadableAs bytes i → bytes ≡ image_bytes i
readable_written bytes i r = ((readable_ranges bytes i).0 r).1

-- An image in range is readable from its bytes.
pub image_readable : (i : Image) → InRange i → ReadableAs (image_bytes i) i
image_readable i g = (readable_ranges (image_bytes i) i).1 (g, refl)

-- ---- the reader's answer

module _ (bytes : List ℕ) (b : Bytes bytes) where
  answer_read : {x : Reading Image} → read_image bytes ≡ x → AnswerIs bytes x
  answer_read {x} e = answer_is bytes ((read_image_iff bytes b x).0 e)

  -- Whatever is read as an image is in range, and reading ends at the last byte.
  pub read-in_range : (i : Image) (end : ℕ) → read_image bytes ≡ got i end → InRange i × (end ≡ length bytes)
  read-in_range i end e = let a = outcome_got (answer_read e) refl in (a.0, a.1)

  -- A refusal is 13, at a place within the bytes or at their end.
  pub read_refusal : (question place : ℕ) → read_image bytes ≡ stop question place → (question ≡ 13) × (place ≤ length bytes)
  read_refusal question place e = outcome_stop (answer_read e) refl

  -- Where the reader stops is the first offence.
  pub stop_offends : (question place : ℕ) → read_image bytes ≡ stop question place → FirstOffence bytes place
  stop_offends question place e =
      (read_image_iff bytes b (stop 13 place)).0 (e ∙ ap (λ (q : ℕ). stop q place) (read_refusal question place e).0)

  -- What it reads is readable as that.
  pub read_readable : (i : Image) (end : ℕ) → read_image bytes ≡ got i end → ReadableAs bytes i
  read_readable i end e = (read_image_iff bytes b (got i (length bytes))).0 (e ∙ ap (got i) (read-in_range i end e).1)

  -- It reads what is readable.
  pub readable_read : (i : Image) → ReadableAs bytes i → read_image bytes ≡ got i (length bytes)
  readable_read i r = (read_image_iff bytes b (got i (length bytes))).1 r

-- An image's bytes are bytes.
spell_bytes : (ns : List ℕ) → Bytes (spell ns)
unfolding spell
spell_bytes [] i = omega arith
spell_bytes (n ∷ ns) i =
    ⊎_elim
    (λ l. subst (λ (v : ℕ). v < 256) (sym (get_or-append (encode n) (spell ns) 0 i l)) (encode_bytes n i))
    (λ l. let k = i - length (encode n) in
    let e : length (encode n) + k ≡ i = omega arith in
    let f = get_or-append-add (encode n) (spell ns) k 0 in
    subst (λ (j : ℕ). get_or (encode n ++ spell ns) j 0 < 256) e (subst (λ (v : ℕ). v < 256) (sym f) (spell_bytes ns k)))
    (lt-or-le i (length (encode n)))

pub image_are_bytes : (i : Image) → Bytes (image_bytes i)
unfolding image_bytes
image_are_bytes i = spell_bytes (image_numbers i)

-- An image in range, written as bytes, is read back as it was, and nothing is left over.
pub read_back : (i : Image) → InRange i → read_image (image_bytes i) ≡ got i (length (image_bytes i))
read_back i g = readable_read (image_bytes i) (image_are_bytes i) i (image_readable i g)

-- ---- padded numbers

-- The numbers from a place on are allowed in a format, up to another place, where the rest of it is due.
pub data Reaches (bytes : List ℕ) {A : Type 0} : Format A → ℕ → Format A → ℕ → Type 0 where
  there : {f : Format A} {at : ℕ} → Reaches bytes f at f at
  past : {ask : ℕ → maybe.Option ℕ} {next : ℕ → ℕ → Format A} {rest : Format A} {at v mid end : ℕ} → FewestAt bytes at v mid → ask v ≡ none
      → Reaches bytes (next v at) mid rest end → Reaches bytes (number ask next) at rest end

reaches_answer : {bytes : List ℕ} {A : Type 0} {f rest : Format A} {at end : ℕ} {x : Reading A} → Reaches bytes f at rest end → Answered bytes rest end x
    → Answered bytes f at x
reaches_answer there a = a
reaches_answer (past s e r) a = onward s e (reaches_answer r a)

-- "still 13 in an image": where the numbers before it are allowed, a padded number offends, at its first byte, whatever its value.
pub padded_offends : {bytes : List ℕ} {at : ℕ} {ask : ℕ → maybe.Option ℕ} {next : ℕ → ℕ → Format Image} → Reaches bytes (image_format done) 0 (number ask next) at
    → {n : ℕ} {padded : List ℕ} → InGroups n padded → length (encode n) < length padded → (more : List ℕ) → drop at bytes ≡ padded ++ more
    → FirstOffence bytes at
padded_offends {bytes} {at} r g l more e =
    reaches_answer r (no_number (λ v mid s. padded_apart g l v more (drop mid bytes) s.written.0 (sym e ∙ fewest-front s)))
