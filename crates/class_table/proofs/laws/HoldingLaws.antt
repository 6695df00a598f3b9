-- After the sweep the tables are what the scanner relies on. What joins them before is not asked here.
use Rattle.std.specs.Prelude.{◌≡◌, Bool, ◌&&◌, List, [], ◌∷◌, length, get_or, replicate}
use Rattle.std.proofs.Math.Path.{refl, ap}
use Rattle.std.proofs.Common.{sym, ◌∙◌, arith, zero-add, get_or-drop, eq-eqb, ne_eqb, le-ltb, lt-ltb, ltb-true}
use Rattle.std.proofs.Math.Bool.{true, false, xor}
use Rattle.std.proofs.Math.Bool as B
use Prim.Native.Nat.{ℕ, zero, suc, ◌+◌, ◌%◌, ◌≤◌, ◌<◌}
use Rattle.std.proofs.Math.Dec.{ltb, leb-suc-suc}
use Rattle.std.proofs.lemmas.List.{get_or-replicate}
use Rattle.basics.specs.Bits.{bit}
use Rattle.basics.proofs.laws.BitLaws.{bit-xor, bit-zero, bit_ext_all}
use Rattle.lexer.specs.Positions.{Position}
use Rattle.lexer.specs.Walk.{has_byte}
use Rattle.lexer.specs.laws.PositionBounds.{NeverFalling}
use Rattle.scanner.specs.ClassTable.{having, ClassTable}
use Rattle.scanner.proofs.laws.ClassTableLaws.{having-first}
use Rattle.class_table.specs.Filling.{edge, swept}
use Rattle.class_table.proofs.laws.BetweenEdges.{between-first, between-next}
use Rattle.scanner.specs.Meaning.{HeldAt, Prepared}
use Rattle.class_table.specs.Holding.{no_position, Holding, SweptOver}

-- ---- the positions whose class has a byte, by their places

having-below : (ps : List Position) (i b j : ℕ) → j < i → bit (having ps i b) j ≡ false
unfolding having
having-below [] i b j h = bit-zero j
having-below (p ∷ ps) i b j h =
    having-first p ps i b j ∙ rw (ne_eqb i j (λ e. omega arith), B.and-false (has_byte p b)) (having-below ps (suc i) b j (omega arith))

having-at : (ps : List Position) (i b j : ℕ) → bit (having ps i b) (i + j) ≡ (ltb j (length ps) && has_byte (get_or ps j no_position) b)
unfolding having
having-at [] i b j = bit-zero (i + j) ∙ rw (le-ltb j 0 (omega arith))
having-at (p ∷ ps) i b zero =
    having-first p ps i b (i + 0)
    ∙ rw (
      eq-eqb i (i + 0) (omega arith),
      having-below ps (suc i) b (i + 0) (omega arith),
      B.and-true (has_byte p b),
      B.or-false (has_byte p b),
      lt-ltb 0 (suc (length ps)) (omega arith),
    )
having-at (p ∷ ps) i b (suc j) =
    let e : i + suc j ≡ suc i + j = omega arith in
    having-first p ps i b (i + suc j)
    ∙ rw (ne_eqb i (i + suc j) (λ q. omega arith), B.and-false (has_byte p b), e) (having-at ps (suc i) b j ∙ sym (ap (λ (z : Bool). z && has_byte (get_or ps j no_position) b) (leb-suc-suc (suc j) (length ps))))

-- ---- the class table

module _ (ps : List Position) (t t' : List ℕ) (h : Holding ps t) (s : SweptOver t t')
    (ordered : (k : ℕ) → k < length ps → (get_or ps k no_position).low ≤ (get_or ps k no_position).high) where
  swept_next : (b j : ℕ) (x : Bool) → ltb j (length ps) ≡ x
      → xor (x && has_byte (get_or ps j no_position) b) (x && edge (get_or ps j no_position).low (get_or ps j no_position).high (suc b))
      ≡ (x && has_byte (get_or ps j no_position) (suc b))
  unfolding xor has_byte
  swept_next b j true q =
      between-next (get_or ps j no_position).low (get_or ps j no_position).high b (ordered j (ltb-true j (length ps) q))
  swept_next b j false q = refl

  swept_bit : (b j : ℕ) → b < 256 → bit (swept t b) j ≡ (ltb j (length ps) && has_byte (get_or ps j no_position) b)
  unfolding swept has_byte
  swept_bit zero j l =
      h.edges 0 j l
      ∙ ap (λ (x : Bool). ltb j (length ps) && x) (between-first (get_or ps j no_position).low (get_or ps j no_position).high)
  swept_bit (suc b) j l =
      bit-xor (swept t b) (get_or t (suc b) 0) j
      ∙ rw (swept_bit b j (omega arith), h.edges (suc b) j l) (swept_next b j (ltb j (length ps)) refl)

  classes : ClassTable ps t'
  classes = λ b l.
      s.entries b l ∙ bit_ext_all _ _ (λ j. swept_bit b j l ∙ sym (having-at ps 0 b j) ∙ ap (bit (having ps 0 b)) (zero-add j))

-- ---- the other words

held_at : (ps : List Position) (t : List ℕ) (last i : ℕ)
    → ((k : ℕ) → k < length ps → get_or t (256 + (i + k)) 0 ≡ (get_or ps k no_position).follow)
    → ((k : ℕ) → k < length ps → get_or t (320 + (i + k)) 0 % 256 ≡ (get_or ps k no_position).rule)
    → ((k : ℕ) → k < length ps → bit last (i + k) ≡ (get_or ps k no_position).last) → HeldAt t last i ps
held_at [] t last i f g l = tt
held_at (p ∷ ps) t last i f g l = (
  get_or-drop 256 t i 0 ∙ here (λ k. get_or t (256 + k) 0) ∙ f 0 (omega arith),
  ap (λ (x : ℕ). x % 256) (get_or-drop 320 t i 0) ∙ here (λ k. get_or t (320 + k) 0 % 256) ∙ g 0 (omega arith),
  here (bit last) ∙ l 0 (omega arith),
  held_at ps t last (suc i)
      (λ k h. next (λ j. get_or t (256 + j) 0) k ∙ f (suc k) (omega arith))
      (λ k h. next (λ j. get_or t (320 + j) 0 % 256) k ∙ g (suc k) (omega arith))
      (λ k h. next (bit last) k ∙ l (suc k) (omega arith)),
)
  where
    here : {A : Type 0} (f : ℕ → A) → f i ≡ f (i + 0)
    here f = let e : i ≡ i + 0 = omega arith in ap f e

    next : {A : Type 0} (f : ℕ → A) (k : ℕ) → f (suc i + k) ≡ f (i + suc k)
    next f k = let e : suc i + k ≡ i + suc k = omega arith in ap f e

pub swept_prepared : (ps : List Position) (t t' : List ℕ) (last : ℕ) → Holding ps t → SweptOver t t' → length ps ≤ 64
    → ((k : ℕ) → k < length ps → (get_or ps k no_position).low ≤ (get_or ps k no_position).high)
    → ((k : ℕ) → k < length ps → bit last k ≡ (get_or ps k no_position).last) → NeverFalling 0 ps
    → Prepared ps last t'
swept_prepared ps t t' last h s few ordered l never = record {
  few = few;
  own_classes = classes ps t t' h s ordered;
  held = held_at ps t' last 0
      (λ k m. rest (λ j. get_or t' (256 + j) 0) k ∙ s.others (256 + k) (omega arith) ∙ h.follow_sets k m)
      (λ k m. rest (λ j. get_or t' (320 + j) 0 % 256) k ∙ ap (λ (x : ℕ). x % 256) (s.others (320 + k) (omega arith)) ∙ h.rules k m)
      (λ k m. rest (bit last) k ∙ l k m);
  never_falling = never;
}
  where
    rest : {A : Type 0} (f : ℕ → A) (k : ℕ) → f (0 + k) ≡ f k
    rest f k = ap f (zero-add k)

-- Tables that are all zero hold no position.
pub holding_none : Holding [] (replicate 448 0)
holding_none = record {
  edges = λ b j l. ap (λ (x : ℕ). bit x j) (get_or-replicate 448 b 0 0 (omega arith)) ∙ bit-zero j ∙ rw (le-ltb j 0 (omega arith));
  follow_sets = λ k l. absurd (omega arith);
  rules = λ k l. absurd (omega arith);
}
