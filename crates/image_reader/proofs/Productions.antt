-- Laws of productions: the test of a rule, what is known of a production that was read, and the table with one entry more.
use mathlib.Core.Path.{◌≡◌, refl, sym, ap, subst, ◌∙◌}
use mathlib.Core.Bool.{Bool, true, false, not, cond, ◌&&◌}
use mathlib.Core.Logic.{⊎_elim}
use mathlib.Core.List.{List, [], ◌∷◌, ◌++◌}
use mathlib.Core.Option.{Option, none, some}
use Prim.Native.Nat.{ℕ, ◌+◌, ◌-◌, ◌≤◌, ◌<◌}
use native.Mathlib.Omega.{arith}
use native.Mathlib.Nat.{zero-add}
use lib.ListN.{length, get_or, set, length-set}
use lib.Seq.{get_or-set_same, get_or-set_other}
use lib.Dec.{eqb, leb, ltb}
use borrow.Author.Tests.{eq-eqb, ne_eqb, le-ltb}
use Rattle.basics.specs.Bits.{bit}
use Rattle.basics.proofs.laws.Order.{compare_cases, lt-or-le}
use Rattle.basics.proofs.laws.Truth.{and-true-first}
use Rattle.sheet.specs.Field.{Reading, stop, got, and_then, between}
use Rattle.normal_form.specs.Productions.{Production, production_of, most_tail}
use Rattle.image.specs.ImageReading.{image_field}
use Rattle.image_reader.specs.Answers.{ProductionHeld}
use Rattle.image_reader.specs.Tables.{held_flags, Members, MembersHeld, EntryTail, EntryIs, EntriesOf, Room, SameBelow}
use Rattle.image_reader.proofs.Fields.{field_same, field_both, field_got, field_range, field_one_byte, between_range, between-below}
use Rattle.image_reader.proofs.Flags.{length-listed, get_or-listed}
use Rattle.image_reader.proofs.Steps.{read_on, read_stops}

-- ---- the rule of a production

-- The test of a production's rule, as the code makes it.
abbrev pub rule_test : ℕ → ℕ → ℕ → ℕ → Bool
rule_test skips rules least v = between least (rules - 1) v && not (bit skips v)

module _ (bytes : List ℕ) (skips rules least at : ℕ) where
  -- The rule's number is read first, and then its bit.
  abbrev second : ℕ → ℕ → Reading ℕ
  second v next = cond (not (bit skips v)) (got v next) (stop 13 at)

  both : image_field (rule_test skips rules least) bytes at ≡ and_then (image_field (between least (rules - 1)) bytes at) second
  both = field_both (between least (rules - 1)) (λ v. not (bit skips v)) bytes at

  pub rule_stops : {q p : ℕ} → image_field (between least (rules - 1)) bytes at ≡ stop q p
      → image_field (rule_test skips rules least) bytes at ≡ stop q p
  rule_stops e = both ∙ read_stops second e

  module _ {rule end : ℕ} (e : image_field (between least (rules - 1)) bytes at ≡ got rule end) where
    tested : {b : Bool} → bit skips rule ≡ b → image_field (rule_test skips rules least) bytes at ≡ cond (not b) (got rule end) (stop 13 at)
    tested h = both ∙ read_on second e ∙ ap (λ (x : Bool). cond (not x) (got rule end) (stop 13 at)) h

    pub rule_skips : bit skips rule ≡ true → image_field (rule_test skips rules least) bytes at ≡ stop 13 at
    rule_skips = tested

    pub rule_passes : bit skips rule ≡ false → image_field (rule_test skips rules least) bytes at ≡ got rule end
    rule_passes = tested

and_assoc : (a b c : Bool) → (a && (b && c)) ≡ ((a && b) && c)
and_assoc true b c = refl
and_assoc false b c = refl

and_never : (a c d : Bool) → ((a && false) && c) ≡ ((a && false) && d)
and_never true c d = refl
and_never false c d = refl

-- It is the definition's test.
module _ (skips rules least : ℕ) (h : 1 ≤ rules) (v : ℕ) where
  abbrev first : Bool
  first = leb least v && ltb v rules

  skip_is : (first && not (get_or (held_flags skips rules) v true)) ≡ (first && not (bit skips v))
  skip_is = ⊎_elim inside outside (lt-or-le v rules)
    where
      inside : v < rules → (first && not (get_or (held_flags skips rules) v true)) ≡ (first && not (bit skips v))
      inside l = ap (λ (b : Bool). first && not b) (get_or-listed (bit skips) 0 rules v true l ∙ ap (bit skips) (zero-add v))

      outside : rules ≤ v → (first && not (get_or (held_flags skips rules) v true)) ≡ (first && not (bit skips v))
      outside l = rw (le-ltb v rules l) (and_never (leb least v) (not (get_or (held_flags skips rules) v true)) (not (bit skips v)))

  rule_is : (leb least v && (ltb v (length (held_flags skips rules)) && not (get_or (held_flags skips rules) v true)))
      ≡ rule_test skips rules least v
  rule_is =
      ap (λ (n : ℕ). leb least v && (ltb v n && not (get_or (held_flags skips rules) v true))) (length-listed (bit skips) 0 rules)
      ∙ and_assoc (leb least v) (ltb v rules) (not (get_or (held_flags skips rules) v true))
      ∙ skip_is ∙ ap (λ (b : Bool). b && not (bit skips v)) (sym (between-below least rules h v))

-- ---- reading a production

-- The code's test reads as the definition's does.
pub field-tested : (bytes : List ℕ) (skips rules least at : ℕ) → 1 ≤ rules
    → image_field (λ v. leb least v && (ltb v (length (held_flags skips rules)) && not (get_or (held_flags skips rules) v true))) bytes at
    ≡ image_field (rule_test skips rules least) bytes at
field-tested bytes skips rules least at h = field_same _ (rule_test skips rules least) bytes at (rule_is skips rules least h)

-- A production has one byte for the rule, one for the tail's length and one for each member.
pub production_held : (bytes : List ℕ) (skips rules n least at : ℕ) {rule at_size size at_tail end : ℕ} {tail : List ℕ}
    → ((i : ℕ) → get_or bytes i 0 < 256) → rules ≤ 32 → 1 ≤ rules
    → image_field (rule_test skips rules least) bytes at ≡ got rule at_size
    → image_field (between 0 most_tail) bytes at_size ≡ got size at_tail
    → MembersHeld bytes at_tail n size end tail
    → ProductionHeld bytes n least at (record { rule = rule; tail = at_size; end = end }) (record { head = rule; tail = tail })
production_held bytes skips rules n least at {rule} {at_size} {size} {at_tail} {end} {tail} hb few h e₁ e₂ m =
    let t = and-true-first _ (not (bit skips rule)) (field_got _ bytes at e₁).allowed in
    let r = between_range least (rules - 1) rule t in
    let b : rule < 32 = omega arith in
    let o₁ = field_one_byte (rule_test skips rules least) bytes at hb e₁ (omega arith) in
    let s : size ≤ most_tail = (field_range 0 most_tail bytes at_size e₂).1 in
    let o₂ = field_one_byte (between 0 most_tail) bytes at_size hb e₂ (omega arith) in
    record {
      head = refl;
      at_least = r.0;
      below = b;
      near = o₁.after;
      onward = omega (arith, o₁.after, o₂.after, m.place);
      short = omega (arith, o₁.after, o₂.after, m.place, s);
      tail = record {
        size = o₂.byte ∙ sym m.count;
        short = omega (arith, m.count, s);
        members = subst (λ (x : ℕ). Members bytes x n tail) o₂.after m.members;
      };
    }

-- ---- the production of a rule

some-none : {A X : Type 0} {a : A} → some a ≡ none → X
some-none {A} {X} {a} e = let z : ◌≡◌ {A = ℕ} 0 1 = cc in absurd (omega arith)

production_new : (r : ℕ) (ps : List Production) (p : Production) → production_of r ps ≡ none → p.head ≡ r
    → production_of r (ps ++ (p ∷ [])) ≡ some p
unfolding production_of
production_new r [] p e h = rw (eq-eqb p.head r h, production_of)
production_new r (q ∷ ps) p e h = go (eqb q.head r) (λ f. production_new r ps p f h) e
  where
    go : (b : Bool) → (production_of r ps ≡ none → production_of r (ps ++ (p ∷ [])) ≡ some p)
        → ◌≡◌ {A = Option Production} (elim b [ true ↦ some q | false ↦ production_of r ps ]) none
        → ◌≡◌ {A = Option Production} (elim b [ true ↦ some q | false ↦ production_of r (ps ++ (p ∷ [])) ]) (some p)
    go true ih f = some-none f
    go false ih f = ih f

production_other : (r : ℕ) (ps : List Production) (p : Production) → (p.head ≡ r → ⊥)
    → production_of r (ps ++ (p ∷ [])) ≡ production_of r ps
unfolding production_of
production_other r [] p h = rw (ne_eqb p.head r h, production_of)
production_other r (q ∷ ps) p h = go (eqb q.head r) (production_other r ps p h)
  where
    go : (b : Bool) → production_of r (ps ++ (p ∷ [])) ≡ production_of r ps
        → ◌≡◌ {A = Option Production} (elim b [ true ↦ some q | false ↦ production_of r (ps ++ (p ∷ [])) ])
        (elim b [ true ↦ some q | false ↦ production_of r ps ])
    go true ih = refl
    go false ih = ih

-- ---- the table

-- The productions of a row so far, in the table from a base on: rules from `least` on have none yet, and nothing but the row's
-- own entries was changed.
pub record Entering (bytes : List ℕ) (start n base : ℕ) (table₀ table : List ℕ) (least : ℕ) (ps : List Production) : Type 0 where
  pub entries : EntriesOf bytes start n table base ps
  pub free : (r : ℕ) → least ≤ r → production_of r ps ≡ none
  pub same : SameBelow base table₀ table
  pub room : Room table (base + 32)

pub entering-none : (bytes : List ℕ) (start n base : ℕ) (table : List ℕ) → Room table base → Entering bytes start n base table table 0 []
unfolding production_of
entering-none bytes start n base table z = record {
  entries = λ r h. z.zero_from (base + r) (omega arith);
  free = λ r h. refl;
  same = λ k h. refl;
  room = record { size = z.size; zero_from = λ k h. z.zero_from k (omega arith) };
}

module _ (bytes : List ℕ) (start n base : ℕ) (table₀ table : List ℕ) (least : ℕ) (ps : List Production)
    (s : Entering bytes start n base table₀ table least ps)
    (rule entry : ℕ) (p : Production) (head : p.head ≡ rule) (l : least ≤ rule) (b : rule < 32) (fits : base + 32 ≤ 2048)
    (t : EntryTail bytes start n entry p.tail) where
  abbrev entered : List ℕ
  entered = set table (base + rule) entry

  entry_new : (r : ℕ) → r ≡ rule → EntryIs bytes start n (get_or entered (base + r) 0) (production_of r (ps ++ (p ∷ [])))
  entry_new r e =
      let o : production_of r (ps ++ (p ∷ [])) ≡ some p = production_new r ps p (s.free r (omega arith)) (head ∙ sym e) in
      let g : get_or entered (base + r) 0 ≡ entry =
      ap (λ (x : ℕ). get_or entered (base + x) 0) e ∙ get_or-set_same table (base + rule) entry 0 (omega (arith, s.room.size)) in
      subst (EntryIs bytes start n (get_or entered (base + r) 0)) (sym o)
      (subst (λ (x : ℕ). EntryTail bytes start n x p.tail) (sym g) t)

  entry_other : (r : ℕ) → r < 32 → (r ≡ rule → ⊥) → EntryIs bytes start n (get_or entered (base + r) 0) (production_of r (ps ++ (p ∷ [])))
  entry_other r h d =
      let o : production_of r (ps ++ (p ∷ [])) ≡ production_of r ps = production_other r ps p (λ e. d (sym e ∙ head)) in
      let g : get_or entered (base + r) 0 ≡ get_or table (base + r) 0 =
      get_or-set_other table (base + rule) (base + r) entry 0 (λ e. d (omega arith)) in
      subst (EntryIs bytes start n (get_or entered (base + r) 0)) (sym o)
      (subst (λ (x : ℕ). EntryIs bytes start n x (production_of r ps)) (sym g) (s.entries r h))

  pub entering-more : Entering bytes start n base table₀ entered (rule + 1) (ps ++ (p ∷ []))
  entering-more = record {
    entries = λ r h. ⊎_elim (λ m. entry_other r h (λ e. omega arith))
        (⊎_elim (λ e. entry_new r e) (λ m. entry_other r h (λ e. omega arith))) (compare_cases r rule);
    free = λ r h. production_other r ps p (λ e. omega (arith, head)) ∙ s.free r (omega arith);
    same = λ k h. get_or-set_other table (base + rule) k entry 0 (λ e. omega arith) ∙ s.same k h;
    room = record {
      size = length-set table (base + rule) entry ∙ s.room.size;
      zero_from = λ k h. get_or-set_other table (base + rule) k entry 0 (λ e. omega arith) ∙ s.room.zero_from k h;
    };
  }
