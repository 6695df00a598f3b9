-- The parts of an image: positions, productions, rows and the image itself are read exactly if they are in range and their numbers stand
-- there. Each is made of its parts, so that what is left to prove of one is that its ranges are those of its numbers.
use Rattle.std.specs.Prelude.{◌≡◌, Bool, true, false, not, ◌&&◌, ◌↔◌, ltb, leb, get_or}
use Rattle.std.proofs.Math.Path.{refl, ap}
use Rattle.std.proofs.Common.{sym, subst, pow_mono, ltb-true, leb-true, lt-ltb, le-leb}
use mathlib.Core.List.{List, [], ◌∷◌}
use Prim.Native.Nat.{ℕ, zero, suc, ◌^◌, ◌≤◌, ◌<◌}
use native.Mathlib.Omega.{arith}
use Rattle.std.proofs.Math.Dec.{eqb}
use Rattle.std.proofs.Math.ListN.{length}
use Rattle.basics.specs.Lists.{All}
use Rattle.basics.proofs.laws.Truth.{and-true-first, and-true-second}
use Rattle.sheet.specs.Limits.{most_rules}
use Rattle.sheet.specs.Field.{between}
use Rattle.sheet.proofs.laws.FieldLaws.{true-between, between-true}
use Rattle.normal_form.specs.Productions.{Production, most_tail}
use Rattle.lexer.specs.Positions.{Position}
use Rattle.lexer.specs.laws.PositionBounds.{NeverFalling}
use Rattle.image.specs.Image.{flag, just, flag_number, position_numbers, production_numbers, row_numbers, image_numbers}
use Rattle.sheet.specs.Format.{field}
use Rattle.sheet.specs.Format.{field}
use Rattle.image.specs.ImageFormat.{flag_field, counted, position_format, production_format, row_format, image_format}
use Rattle.image.specs.ImageRanges.{PositionInRange, ProductionInRange, Rising, RowInRange, InRange}
use Rattle.image.proofs.laws.FormatParts.{EachFrom, tail_is, Lawful, field_lawful, then_lawful, like_lawful, many_lawful, list_lawful}

-- Each member is so by itself, and in the state that those before it leave, as another definition has it.
each_both : {S A : Type 0} {Good : S → A → Type 0} (Q : A → Type 0) (update : S → A → S) (Each : S → List A → Type 0) → ((s : S) → Each s [])
    → ((s : S) (a : A) (l : List A) → Each s (a ∷ l) ↔ (Good s a × Each (update s a) l))
    → (s : S) (l : List A) → EachFrom (λ s a. Good s a × Q a) update s l ↔ (All Q l × Each s l)
each_both Q update Each none more s [] = (λ g. (tt, none s), λ g. tt)
each_both Q update Each none more s (a ∷ l) =
    let later = each_both Q update Each none more (update s a) l in (
      λ g. let r = later.0 g.1 in ((g.0.1, r.0), (more s a l).1 (g.0.0, r.1)),
      λ g. let m = (more s a l).0 g.1 in ((m.0, g.0.0), later.1 (g.0.1, m.1)),
    )

-- Rules of positions never fall, and those of productions rise.
positions_each : (Q : Position → Type 0) (ps : List Position)
    → EachFrom (λ before p. (before ≤ p.rule) × Q p) (λ before p. p.rule) 0 ps ↔ (All Q ps × NeverFalling 0 ps)
positions_each Q ps = each_both Q (λ before p. p.rule) NeverFalling (λ s. tt) (λ s p ps. (λ g. g, λ g. g)) 0 ps

productions_each : (Q : Production → Type 0) (ps : List Production)
    → EachFrom (λ least p. (least ≤ p.head) × Q p) (λ least p. suc p.head) 0 ps ↔ (All Q ps × Rising 0 ps)
productions_each Q ps = each_both Q (λ least p. suc p.head) Rising (λ s. tt) (λ s p ps. (λ g. g, λ g. g)) 0 ps

both : (a b : Bool) → (a && b) ≡ true → (a ≡ true) × (b ≡ true)
both a b e = (and-true-first a b e, and-true-second a b e)

module _ (bytes : List ℕ) where
  -- ---- numbers and flags

  between_lawful : (l m : ℕ) → m < 2 ^ 64 → Lawful bytes (λ X. field 13 (between l m)) (λ v. (l ≤ v) × (v ≤ m)) just
  between_lawful l m s =
      field_lawful bytes (between l m) _ (λ v b e. true-between l m v e)
      (λ v g. let h = g.1 in (omega arith, between-true l m v g.0 g.1))

  below_lawful : (b : ℕ) → b ≤ 2 ^ 64 → Lawful bytes (λ X. field 13 (λ v. ltb v b)) (λ v. v < b) just
  below_lawful b s = field_lawful bytes (λ v. ltb v b) _ (λ v small e. ltb-true v b e) (λ v l. (omega arith, lt-ltb v b l))

  flag_lawful : Lawful bytes (λ X. flag_field) (λ b. Unit {0}) flag_number
  unfolding flag_field flag
  flag_lawful =
      like_lawful bytes (between_lawful 0 1 (omega arith)) (λ v. eqb v 1) flag (λ v g. small v g.1) back (λ b. (λ g. tt, λ g. in_range b)) (λ b. refl)
    where
      small : (v : ℕ) → v ≤ 1 → flag (eqb v 1) ≡ v
      small zero l = refl
      small (suc zero) l = refl
      small (suc (suc v)) l = absurd (omega arith)

      back : (b : Bool) → eqb (flag b) 1 ≡ b
      back true = refl
      back false = refl

      in_range : (b : Bool) → (0 ≤ flag b) × (flag b ≤ 1)
      in_range true = (omega arith, omega arith)
      in_range false = (omega arith, omega arith)

  -- ---- positions

  module _ (R P : ℕ) (few : R ≤ most_rules) (some : P ≤ 64) where
    rule_lawful : (before : ℕ) → Lawful bytes (λ X. field 13 (λ v. leb before v && ltb v R)) (λ v. (before ≤ v) × (v < R)) just
    rule_lawful before =
        field_lawful bytes (λ v. leb before v && ltb v R) _
        (λ v small e. let t = both (leb before v) (ltb v R) e in (leb-true before v t.0, ltb-true v R t.1))
        (λ v g. let h = g.1 in (omega arith, rw (le-leb before v g.0, lt-ltb v R h)))

    position_lawful : (before : ℕ)
        → Lawful bytes (λ X. position_format R P before) (λ p. (before ≤ p.rule) × PositionInRange R P p) position_numbers
    unfolding position_format
    position_lawful before =
        like_lawful bytes
        (then_lawful bytes (between_lawful 0 255 (omega arith))
        (λ low g. then_lawful bytes (between_lawful low 255 (omega arith))
        (λ high g. then_lawful bytes (rule_lawful before)
        (λ rule g. then_lawful bytes flag_lawful
        (λ last g. below_lawful (2 ^ P) (pow_mono some))))))
        (λ t. record { low = t.0; high = t.1.0; rule = t.1.1.0; last = t.1.1.1.0; follow = t.1.1.1.1 })
        (λ p. (p.low, (p.high, (p.rule, (p.last, p.follow))))) (λ t g. refl) (λ p. refl)
        (λ p. (
          λ g. (g.1.1.0.0, record { low_high = g.1.0.0; high_byte = g.1.0.1; rule_below = g.1.1.0.1; follow_below = g.1.1.1.1 }),
          λ g. let r = g.1 in
              let l = r.low_high in
              let h = r.high_byte in ((omega arith, omega arith), ((l, h), ((g.0, r.rule_below), (tt, r.follow_below)))),
        ))
        (λ p. refl)

  -- ---- productions and rows

  module _ (skips : List Bool) (N : ℕ) (few : length skips ≤ most_rules) (some : N ≤ 64) where
    head_lawful : (least : ℕ) → Lawful bytes (λ X. field 13 (λ v. leb least v && (ltb v (length skips) && not (get_or skips v true))))
        (λ v. (least ≤ v) × (v < length skips) × (get_or skips v true ≡ false)) just
    head_lawful least =
        field_lawful bytes (λ v. leb least v && (ltb v (length skips) && not (get_or skips v true))) _
        (λ v small e.
        let t = both (leb least v) (ltb v (length skips) && not (get_or skips v true)) e in
        let u = both (ltb v (length skips)) (not (get_or skips v true)) t.1 in
        (leb-true least v t.0, ltb-true v (length skips) u.0, negated (get_or skips v true) u.1))
        (λ v g. let h = g.1 in (omega arith, rw (le-leb least v g.0, lt-ltb v (length skips) h, g.2)))
      where
        negated : (b : Bool) → not b ≡ true → b ≡ false
        negated true e = sym e
        negated false e = refl

    production_lawful : (least : ℕ)
        → Lawful bytes (λ X. production_format skips N least) (λ p. (least ≤ p.head) × ProductionInRange skips N p) production_numbers
    unfolding production_format counted
    production_lawful least =
        like_lawful bytes
        (then_lawful bytes (head_lawful least)
        (λ rule g. then_lawful bytes (between_lawful 0 most_tail (omega arith))
        (λ size g. list_lawful bytes (below_lawful N (omega arith)) size)))
        (λ t. record { head = t.0; tail = t.1.1 }) (λ p. (p.head, (length p.tail, p.tail)))
        (λ t g. ap (λ (n : ℕ). (t.0, (n, t.1.1))) g.1.1.0) (λ p. refl)
        (λ p. (
          λ g. (g.0.0, record { rule_below = g.0.1; not_skipping = g.0.2; tail_length = g.1.0.1; members_below = g.1.1.1 }),
          λ g. let r = g.1 in ((g.0, r.rule_below, r.not_skipping), ((omega arith, r.tail_length), (refl, r.members_below))),
        ))
        (λ p. ap (λ (l : List ℕ). p.head ∷ length p.tail ∷ l) (tail_is p.tail))

    row_lawful : Lawful bytes (λ X. row_format skips N) (RowInRange skips N) row_numbers
    unfolding row_format counted
    row_lawful =
        like_lawful bytes
        (then_lawful bytes flag_lawful
        (λ epsilon g. then_lawful bytes (between_lawful 0 32 (omega arith))
        (λ size g. many_lawful bytes (λ least p. suc p.head) production_lawful size 0)))
        (λ t. record { has_epsilon = t.0; productions = t.1.1 }) (λ r. (r.has_epsilon, (length r.productions, r.productions)))
        (λ t g. ap (λ (n : ℕ). (t.0, (n, t.1.1))) g.1.1.0) (λ r. refl)
        (λ r. (
          λ g. let e = (productions_each (ProductionInRange skips N) r.productions).0 g.1.1.1 in
              record { production_count = g.1.0.1; productions_in_range = e.0; rising = e.1 },
          λ g. let e = (productions_each (ProductionInRange skips N) r.productions).1 (g.productions_in_range, g.rising) in
              (tt, ((omega arith, g.production_count), (refl, e))),
        ))
        (λ r. refl)

  -- ---- the image

  pub image_lawful : Lawful bytes (λ X. image_format) InRange image_numbers
  unfolding image_format counted image_numbers
  image_lawful =
      like_lawful bytes
      (then_lawful bytes (between_lawful 1 1 (omega arith))
      (λ version g. then_lawful bytes
      (then_lawful bytes (between_lawful 1 most_rules (omega arith)) (λ rules R. list_lawful bytes flag_lawful rules))
      (λ r R. then_lawful bytes
      (then_lawful bytes (between_lawful 1 64 (omega arith))
      (λ count P. many_lawful bytes (λ before p. p.rule) (position_lawful r.0 count R.0.1 P.1) count 0))
      (λ p P. then_lawful bytes (below_lawful (2 ^ p.0) (pow_mono P.0.1))
      (λ first g. then_lawful bytes (between_lawful 1 64 (omega arith))
      (λ nonterminals N. list_lawful bytes
      (row_lawful r.1 nonterminals (subst (λ (n : ℕ). n ≤ most_rules) (sym R.1.0) R.0.1) N.1) nonterminals))))))
      (λ t. record { skips = t.1.0.1; positions = t.1.1.0.1; first = t.1.1.1.0; rows = t.1.1.1.1.1 })
      (λ i. (1, ((length i.skips, i.skips), ((length i.positions, i.positions), (i.first, (length i.rows, i.rows))))))
      (λ t g j. (version_is t.0 g.0 j, ((g.1.0.1.0 j, t.1.0.1), ((g.1.1.0.1.0 j, t.1.1.0.1), (t.1.1.1.0, (g.1.1.1.1.1.0 j, t.1.1.1.1.1))))))
      (λ i. refl)
      (λ i. (
        λ g. let ps = (positions_each (PositionInRange (length i.skips) (length i.positions)) i.positions).0 g.1.1.0.1.1 in record {
          some_rules = g.1.0.0.0;
          rule_count = g.1.0.0.1;
          some_positions = g.1.1.0.0.0;
          position_count = g.1.1.0.0.1;
          positions_in_range = ps.0;
          never_falling = ps.1;
          first_below = g.1.1.1.0;
          some_rows = g.1.1.1.1.0.0;
          row_count = g.1.1.1.1.0.1;
          rows_in_range = g.1.1.1.1.1.1;
        },
        λ r. let ps = (positions_each (PositionInRange (length i.skips) (length i.positions)) i.positions).1 (r.positions_in_range, r.never_falling) in (
          (omega arith, omega arith),
          (
            ((r.some_rules, r.rule_count), (refl, each_unit i.skips)),
            (((r.some_positions, r.position_count), (refl, ps)), (r.first_below, ((r.some_rows, r.row_count), (refl, r.rows_in_range)))),
          ),
        ),
      ))
      (λ i. refl)
    where
      version_is : (v : ℕ) → (1 ≤ v) × (v ≤ 1) → 1 ≡ v
      version_is v g = omega (arith, g.0, g.1)

      each_unit : (l : List Bool) → All (λ b. Unit {0}) l
      each_unit [] = tt
      each_unit (b ∷ l) = (tt, each_unit l)
