-- Formats of parts, and what an answer says of them: a part that is good, and whose numbers stand there, is read, and nothing else is.
-- Parts are made of numbers, of one part and then another, and of many in a row; what an image's parts are is not said here.
use Rattle.std.proofs.Math.Path.{◌≡◌, refl, ap, subst}
use Rattle.std.proofs.Common.{sym, ap₂, ◌∙◌, length-take, length-drop, take-append-drop, drop-drop}
use Rattle.std.specs.Prelude.{Bool, cond, ◌↔◌, take}
use Rattle.std.proofs.Math.Bool.{true, false}
use mathlib.Core.List.{List, [], ◌∷◌, ◌++◌, append-nil}
use Rattle.std.proofs.Math.Option.{Option, none, some}
use Prim.Native.Nat.{ℕ, zero, suc, ◌+◌, ◌-◌, ◌^◌, ◌≤◌, ◌<◌}
use native.Mathlib.Omega.{arith}
use Rattle.std.proofs.Math.ListN.{length, drop}
use Rattle.std.proofs.Math.Seq.{take-append_seam}
use Rattle.basics.specs.Lists.{All}
use Rattle.number.specs.Number.{encode, decode_fewest, read}
use Rattle.number.proofs.laws.Laws.{encode_there, fewest_within, fewest_there, fewest_bytes, refused_read, read_same}
use Rattle.sheet.specs.Spelling.{StandsAt, spell}
use Rattle.sheet.specs.Field.{Reading, stop}
use Rattle.sheet.proofs.laws.FieldLaws.{Bytes, Stands, stands_none, stands_append, stands_first, stands_rest}
use Rattle.sheet.specs.Format.{Format, number, field, FormatAnswer, no_number, not_allowed, onward}
use Rattle.sheet.proofs.laws.FormatLaws.{Once, Finds}
use Rattle.image.specs.Image.{all_numbers, just}
use Rattle.image.specs.ImageFormat.{many_fields, Fewest}

-- The answer to bytes, from a place on, where a format of an image's parts is due.
abbrev pub Answered : List ℕ → {A : Type 0} → Format A → ℕ → Reading A → Type 0
Answered bytes = FormatAnswer Fewest bytes 13 13

-- ---- a number in its fewest bytes

abbrev pub FewestAt : List ℕ → ℕ → ℕ → ℕ → Type 0
FewestAt = StandsAt Fewest

module _ {bytes : List ℕ} {at n next : ℕ} (s : FewestAt bytes at n next) where
  fewest_size : (next - at ≡ length (encode n)) × (at < next)
  fewest_size =
      let l = ap (λ (l : List ℕ). length l) s.written.1 in
      let t = length-take (next - at) (drop at bytes) in
      let d = length-drop at bytes in
      let e = encode_there n in
      let i = s.inside in (omega arith, omega arith)

  fewest_found : decode_fewest bytes at ≡ read n (next - at) true
  fewest_found = subst (λ (k : ℕ). decode_fewest bytes at ≡ read n k true) (sym fewest_size.0)
      (fewest_there bytes at n s.written.0 (subst (λ (k : ℕ). take k (drop at bytes) ≡ encode n) fewest_size.0 s.written.1))

  -- Its bytes are at the front of what stands there.
  pub fewest-front : drop at bytes ≡ encode n ++ drop next bytes
  fewest-front =
      let to : at + (next - at) ≡ next = omega (arith, fewest_size.1) in
      sym (take-append-drop (next - at) (drop at bytes)) ∙ ap₂ ◌++◌ s.written.1 (drop-drop (next - at) at bytes ∙ ap (λ (k : ℕ). drop k bytes) to)

  fewest_stands : Stands bytes at (n ∷ []) next
  unfolding spell
  fewest_stands =
      let nothing : encode n ++ [] ≡ encode n = append-nil (encode n) in record {
        there = fewest-front ∙ ap (λ (l : List ℕ). l ++ drop next bytes) (sym nothing);
        until = omega (arith, fewest_size.0, fewest_size.1, ap (λ (l : List ℕ). length l) nothing);
        inside = s.inside;
      }

stands_fewest : {bytes : List ℕ} {at n next : ℕ} → n < 2 ^ 64 → Stands bytes at (n ∷ []) next → FewestAt bytes at n next
unfolding spell
stands_fewest {bytes} {at} {n} {next} b s =
    let width : next - at ≡ length (encode n ++ []) = omega (arith, s.until) in
    record {
      inside = s.inside;
      written = (b, ap₂ take width s.there ∙ take-append_seam (encode n ++ []) (drop next bytes) ∙ append-nil (encode n));
    }

pub fewest_once : (bytes : List ℕ) → Once (FewestAt bytes)
fewest_once bytes at m n x y s t =
    let same = read_same (sym (fewest_found s) ∙ fewest_found t) in
    (same.0, omega (arith, same.1, (fewest_size s).1, (fewest_size t).1))

pub fewest_finds : (bytes : List ℕ) → Bytes bytes → Finds (FewestAt bytes) (length bytes) (decode_fewest bytes)
fewest_finds bytes b = record {
  none_there = λ at e v mid s. refused_read (sym e ∙ fewest_found s);
  there = λ at n e.
      let w = fewest_within bytes at e in
      let width : at + n.used - at ≡ n.used = omega arith in
      record { inside = w.inside; written = (w.below, subst (λ (k : ℕ). take k (drop at bytes) ≡ encode n.value) (sym width) (fewest_bytes bytes at e b)) };
  inside = λ at n e. (fewest_within bytes at e).inside;
}

-- ---- parts

-- Each member is so in the state that those before it leave.
abbrev pub EachFrom : {S A : Type 0} → (S → A → Type 0) → (S → A → S) → S → List A → Type 0
EachFrom Good update s [] = Unit
EachFrom Good update s (a ∷ l) = Good s a × EachFrom Good update (update s a) l

-- Numbers are their own numbers.
pub tail_is : (l : List ℕ) → all_numbers just l ≡ l
tail_is [] = refl
tail_is (n ∷ l) = ap (λ (k : List ℕ). n ∷ k) (tail_is l)

module _ (bytes : List ℕ) where
  -- Where an answer comes from, when a part is due and then what follows it: a refusal within the bytes or at their end, or a good part,
  -- whose numbers stand there, and the answer of what follows it.
  pub data Leads {A X : Type 0} (Good : A → Type 0) (numbers : A → List ℕ) (next : A → Format X) (at : ℕ) : Reading X → Type 0 where
    unread : {place : ℕ} → place ≤ length bytes → Leads Good numbers next at (stop 13 place)
    through : {x : Reading X} {mid : ℕ} (a : A) → Good a → Stands bytes at (numbers a) mid → Answered bytes (next a) mid x
        → Leads Good numbers next at x

  lead : {A B X : Type 0} {P : A → Type 0} {Q : B → Type 0} {ns : A → List ℕ} {ms : B → List ℕ} {next : A → Format X} {last : B → Format X}
      {at from : ℕ} {x : Reading X} → Leads P ns next at x
      → ((a : A) (mid : ℕ) → P a → Stands bytes at (ns a) mid → Answered bytes (next a) mid x → Leads Q ms last from x) → Leads Q ms last from x
  lead (unread l) k = unread l
  lead (through {mid = mid} a g s r) k = k a mid g s r

  -- A part's format: what is good, and which numbers are written for it.
  pub record Lawful {A : Type 0} (f : (X : Type 0) → (A → Format X) → Format X) (Good : A → Type 0) (numbers : A → List ℕ) : Type 1 where
    pub writes : (X : Type 0) (next : A → Format X) (a : A) {at mid : ℕ} {x : Reading X} → Good a → Stands bytes at (numbers a) mid
        → Answered bytes (next a) mid x → Answered bytes (f X next) at x
    pub reads : (X : Type 0) (next : A → Format X) {at : ℕ} {x : Reading X} → at ≤ length bytes → Answered bytes (f X next) at x
        → Leads Good numbers next at x

  -- ---- a number

  abbrev asks : Bool → Option ℕ
  asks b = cond b none (some 13)

  pub field_lawful : (allowed : ℕ → Bool) (Good : ℕ → Type 0) → ((v : ℕ) → v < 2 ^ 64 → allowed v ≡ true → Good v)
      → ((v : ℕ) → Good v → (v < 2 ^ 64) × (allowed v ≡ true)) → Lawful (λ X. field 13 allowed) Good just
  unfolding field
  field_lawful allowed Good good test = record {
    writes = λ X next v g s r. onward (stands_fewest (test v g).0 s) (ap asks (test v g).1) r;
    reads = λ X next l r. by_answer X next l r;
  }
    where
      passes : (b : Bool) → asks b ≡ none → b ≡ true
      passes true e = refl
      passes false e = let z : ◌≡◌ {A = ℕ} 0 1 = cc in absurd (omega arith)

      thirteen : (b : Bool) (q : ℕ) → asks b ≡ some q → 13 ≡ q
      thirteen true q e = let z : ◌≡◌ {A = ℕ} 0 1 = cc in absurd (omega arith)
      thirteen false q e = cc

      by_answer : (X : Type 0) (next : ℕ → Format X) {at : ℕ} {x : Reading X} → at ≤ length bytes
          → Answered bytes (number (λ v. asks (allowed v)) (λ v place. next v)) at x → Leads Good just next at x
      by_answer X next l (no_number n) = unread l
      by_answer X next {at} l (not_allowed {v = v} {question = q} s e) =
          subst (λ (k : ℕ). Leads Good just next at (stop k at)) (thirteen (allowed v) q e) (unread l)
      by_answer X next l (onward {v = v} s e r) = through v (good v s.written.0 (passes (allowed v) e)) (fewest_stands s) r

  -- ---- one part, and then another

  module _ {A B : Type 0} {f : (X : Type 0) → (A → Format X) → Format X} {g : A → (X : Type 0) → (B → Format X) → Format X}
      {P : A → Type 0} {Q : A → B → Type 0} {ns : A → List ℕ} {ms : A → B → List ℕ}
      (c : Lawful f P ns) (k : (a : A) → P a → Lawful (g a) (Q a) (ms a)) where
    pub then_lawful : Lawful (λ X next. f X (λ a. g a X (λ b. next (a, b)))) (λ (p : A × B). P p.0 × Q p.0 p.1)
        (λ p. ns p.0 ++ ms p.0 p.1)
    then_lawful = record {
      writes = λ X next p {at} {mid} h s r.
          c.writes X _ p.0 h.0 (stands_first bytes at (ns p.0) (ms p.0 p.1) mid s)
          ((k p.0 h.0).writes X (λ b. next (p.0, b)) p.1 h.1 (stands_rest bytes at (ns p.0) (ms p.0 p.1) mid s) r);
      reads = λ X next l r.
          lead (c.reads X _ l r) (λ a mid h s r. lead ((k a h).reads X _ s.inside r)
          (λ b end i t r. through (a, b) (h, i) (stands_append s t) r));
    }

  -- ---- the same numbers for another thing

  module _ {A B : Type 0} {f : (X : Type 0) → (A → Format X) → Format X} {P : A → Type 0} {Q : B → Type 0} {ns : A → List ℕ} {ms : B → List ℕ}
      (c : Lawful f P ns) (to : A → B) (from : B → A) (there : (a : A) → P a → from (to a) ≡ a) (back : (b : B) → to (from b) ≡ b)
      (good : (b : B) → P (from b) ↔ Q b) (same : (b : B) → ns (from b) ≡ ms b) where
    pub like_lawful : Lawful (λ X next. f X (λ a. next (to a))) Q ms
    like_lawful = record {
      writes = λ X next b {at} {mid} {x} g s r.
          c.writes X _ (from b) ((good b).1 g) (subst (λ (l : List ℕ). Stands bytes at l mid) (sym (same b)) s)
          (subst (λ (b : B). Answered bytes (next b) mid x) (sym (back b)) r);
      reads = λ X next {at} l r. lead (c.reads X _ l r) (λ a mid g s r.
          through (to a) ((good (to a)).0 (subst P (sym (there a g)) g))
          (subst (λ (l : List ℕ). Stands bytes at l mid) (ap ns (sym (there a g)) ∙ same (to a)) s) r);
    }

  -- ---- many in a row

  module _ {S A : Type 0} {one : S → (X : Type 0) → (A → Format X) → Format X} (update : S → A → S) {Good : S → A → Type 0} {numbers : A → List ℕ}
      (step : (s : S) → Lawful (one s) (Good s) numbers) where
    many_writes : (X : Type 0) (l : List A) (s : S) (next : List A → Format X) {at mid : ℕ} {x : Reading X} → EachFrom Good update s l
        → Stands bytes at (all_numbers numbers l) mid → Answered bytes (next l) mid x
        → Answered bytes (many_fields (λ s. one s X) update s (length l) next) at x
    unfolding many_fields spell
    many_writes X [] s next {at} {mid} {x} g t r =
        subst (λ (k : ℕ). Answered bytes (next []) k x) (let u = t.until in let e : mid ≡ at = omega arith in e) r
    many_writes X (a ∷ l) s next {at} {mid} g t r =
        (step s).writes X _ a g.0 (stands_first bytes at (numbers a) (all_numbers numbers l) mid t)
        (many_writes X l (update s a) (λ l. next (a ∷ l)) g.1 (stands_rest bytes at (numbers a) (all_numbers numbers l) mid t) r)

    many_reads : (X : Type 0) (n : ℕ) (s : S) (next : List A → Format X) {at : ℕ} {x : Reading X} → at ≤ length bytes
        → Answered bytes (many_fields (λ s. one s X) update s n next) at x
        → Leads (λ l. (length l ≡ n) × EachFrom Good update s l) (all_numbers numbers) next at x
    unfolding many_fields
    many_reads X zero s next {at} l r = through [] (refl, tt) (stands_none bytes at l) r
    many_reads X (suc n) s next l r =
        lead ((step s).reads X _ l r) (λ a mid g t r. lead (many_reads X n (update s a) (λ l. next (a ∷ l)) t.inside r)
        (λ l end h u r. through (a ∷ l) (ap suc h.0, (g, h.1)) (stands_append t u) r))

    pub many_lawful : (n : ℕ) (s : S)
        → Lawful (λ X. many_fields (λ s. one s X) update s n) (λ l. (length l ≡ n) × EachFrom Good update s l) (all_numbers numbers)
    many_lawful n s = record {
      writes = λ X next l {at} {mid} {x} g t r.
          subst (λ (n : ℕ). Answered bytes (many_fields (λ s. one s X) update s n next) at x) g.0 (many_writes X l s next g.1 t r);
      reads = λ X next l r. many_reads X n s next l r;
    }

  -- All alike: the state says nothing.
  pub list_lawful : {A : Type 0} {f : (X : Type 0) → (A → Format X) → Format X} {Good : A → Type 0} {numbers : A → List ℕ} → Lawful f Good numbers
      → (n : ℕ) → Lawful (λ X. many_fields (λ (s : Bool). f X) (λ s a. s) true n) (λ l. (length l ≡ n) × All Good l) (all_numbers numbers)
  list_lawful {A} {f} {Good} c n =
      like_lawful (many_lawful {one = λ (s : Bool). f} (λ s a. s) (λ s. c) n true) (λ l. l) (λ l. l) (λ l g. refl) (λ l. refl)
      (λ l. (λ g. (g.0, (each l).0 g.1), λ g. (g.0, (each l).1 g.1))) (λ l. refl)
    where
      each : (l : List A) → EachFrom (λ (s : Bool) a. Good a) (λ s a. s) true l ↔ All Good l
      each [] = (λ g. tt, λ g. tt)
      each (a ∷ l) = (λ g. (g.0, (each l).0 g.1), λ g. (g.0, (each l).1 g.1))
