-- How long an image is: an image in range has at most 1,070 bytes and `most_row_bytes` for each nonterminal, and a sheet's image has at
-- most 32 nonterminals, so that it fits 65,536 bytes.
use Rattle.std.specs.Prelude.{◌≡◌, refl, Bool, true, false, ℕ, ◌+◌, ◌*◌, ◌/◌, ◌≤◌, ◌<◌, length}
use Rattle.std.proofs.Common.{ap, subst, ◌∙◌, ⊎_elim, arith, length-append, lt-ltb, le-ltb}
use mathlib.Core.List.Memᴰ
use mathlib.Core.List.{List, [], ◌∷◌, ◌++◌, flat_map, Memᴰ}
use Rattle.std.proofs.Math.Option.{none}
use Rattle.basics.specs.Lists.{All}
use Rattle.basics.proofs.laws.Order.{lt-or-le}
use Rattle.number.specs.Number.{encode, encode_in}
use Rattle.number.proofs.laws.Laws.{encode_ten}
use Rattle.sheet.specs.Limits.{most_rules, most_expression_nodes}
use Rattle.sheet.specs.Expression.{Expression}
use Rattle.sheet.specs.Sheet.{Rule, Sheet}
use Rattle.sheet.specs.Spelling.{spell}
use Rattle.sheet.proofs.laws.FieldLaws.{spell-append}
use Rattle.sheet.specs.WellFormed.{WithinLimits, Closed}
use Rattle.types.specs.Types.{LanguageType, ◌⊢◌∶◌}
use Rattle.normal_form.specs.Productions.{Production, Row, row_of, most_tail}
use Rattle.normal_form.specs.NormalForm.{normal_form}
use Rattle.normal_form.proofs.laws.TailNodes.{tail_nodes, tails_within, tail_nodes_few}
use Rattle.lexer.specs.RuleOrder.{image_sheet}
use Rattle.lexer.proofs.laws.OrderedMatches.{ordered_empty_match, ordered_limits}
use Rattle.lexer.specs.Positions.{Position, empty_match}
use Rattle.basics.proofs.laws.DistinctMembers.{distinct_few}
use Rattle.basics.proofs.laws.MeetingLaws.{first_met_member}
use Rattle.image.specs.Fusion.{fused}
use Rattle.image.specs.Image.{Image, plain_image, image_of, flag, all_numbers, flag_number, position_numbers, production_numbers, row_numbers, image_numbers, image_bytes}
use Rattle.image.proofs.laws.ImageLaws.{normal_form-inside, normal_form-some, plain_in_range}
use Rattle.image.specs.ImageRanges.{PositionInRange, ProductionInRange, RowInRange, InRange}
use Rattle.basics.proofs.laws.Members.{all_member, of_flat_map}
use Rattle.image.specs.Numbering.{reached}
use Rattle.image.proofs.laws.NumberingLaws.{row_by_row, numbered-count}
use Rattle.image.proofs.laws.Simulation.{reached-fused, fused_member}

-- ---- bytes of numbers

-- The bytes that numbers take.
abbrev width : List ℕ → ℕ
width ns = length (spell ns)

width-append : (ms ns : List ℕ) → width (ms ++ ns) ≡ width ms + width ns
width-append ms ns = ap (λ (l : List ℕ). length l) (spell-append ms ns) ∙ length-append (spell ms) (spell ns)

width-cons : (n : ℕ) (ns : List ℕ) → width (n ∷ ns) ≡ length (encode n) + width ns
unfolding spell
width-cons n ns = length-append (encode n) (spell ns)

one_byte : (n : ℕ) → n < 128 → length (encode n) ≡ 1
unfolding encode encode_in
one_byte n h = rw (lt-ltb n 128 h)

two_bytes : (n : ℕ) → n ≤ 255 → length (encode n) ≤ 2
unfolding encode encode_in
two_bytes n h = ⊎_elim (λ l. rw (lt-ltb n 128 l) (omega arith))
    (λ l. rw (le-ltb n 128 l, lt-ltb (n / 128) 128 (omega arith)) (omega arith)) (lt-or-le n 128)

-- Small numbers take a byte each.
width_small : (ns : List ℕ) → All (λ n. n < 128) ns → width ns ≡ length ns
unfolding spell
width_small [] h = refl
width_small (n ∷ ns) h = omega (arith, width-cons n ns, one_byte n h.0, width_small ns h.1)

-- Things that take at most so many bytes each.
width-all : {A : Type 0} (numbers : A → List ℕ) (most : ℕ) (l : List A) → All (λ a. width (numbers a) ≤ most) l
    → width (all_numbers numbers l) ≤ length l * most
unfolding spell
width-all numbers most [] h = omega arith
width-all numbers most (a ∷ l) h =
    let x = h.0 in
    omega (arith, width-append (numbers a) (all_numbers numbers l), width-all numbers most l h.1)

-- ---- bytes of an image in range

flag_small : (b : Bool) → flag b < 128
unfolding flag
flag_small true = omega arith
flag_small false = omega arith

flag-width : (b : Bool) → width (flag_number b) ≤ 1
flag-width b = omega (arith, width_small (flag_number b) (flag_small b, tt))

position-width : (rules count : ℕ) (p : Position) → rules ≤ most_rules → PositionInRange rules count p → width (position_numbers p) ≤ 16
position-width rules count p few g =
    let a = g.low_high in
    let b = g.high_byte in
    let c = g.rule_below in
    let rest = width_small (p.rule ∷ flag p.last ∷ []) (omega arith, (flag_small p.last, tt)) in
    omega (
      arith,
      width-cons p.low (p.high ∷ p.rule ∷ flag p.last ∷ p.follow ∷ []),
      two_bytes p.low (omega arith),
      width-cons p.high (p.rule ∷ flag p.last ∷ p.follow ∷ []),
      two_bytes p.high b,
      width-append (p.rule ∷ flag p.last ∷ []) (p.follow ∷ []),
      ten p.follow,
    )
  where
    ten : (n : ℕ) → width (n ∷ []) ≤ 10
    ten n = unfold spell in omega (arith, width-cons n [], encode_ten n)

small_members : (count : ℕ) (l : List ℕ) → count ≤ most_expression_nodes → All (λ n. n < count) l → All (λ n. n < 128) l
small_members count [] few h = tt
small_members count (n ∷ l) few h = ((let a = h.0 in omega arith), small_members count l few h.1)

-- A production's rule, its tail's length and the tail, a byte each.
abbrev most_production_bytes : ℕ
most_production_bytes = 2 + most_tail

-- A row's ε flag, its production count, and a production for each rule.
abbrev pub most_row_bytes : ℕ
most_row_bytes = 2 + most_rules * most_production_bytes

production-width : (skips : List Bool) (count : ℕ) (p : Production) → length skips ≤ most_rules → count ≤ most_expression_nodes
    → ProductionInRange skips count p → width (production_numbers p) ≤ most_production_bytes
production-width skips count p few_rules few g =
    let a = g.rule_below in
    let b = g.tail_length in
    omega (arith, width_small (production_numbers p) (omega arith, (omega arith, small_members count p.tail few g.members_below)))

row-width : (skips : List Bool) (count : ℕ) (row : Row) → length skips ≤ most_rules → count ≤ most_expression_nodes
    → RowInRange skips count row
    → width (row_numbers row) ≤ most_row_bytes
row-width skips count row few_rules few g =
    let a = g.production_count in
    let ps = row.productions in
    let most = width-all production_numbers most_production_bytes ps (each ps g.productions_in_range) in
    omega (
      arith,
      width-append (flag row.has_epsilon ∷ length ps ∷ []) (all_numbers production_numbers ps),
      width_small (flag row.has_epsilon ∷ length ps ∷ []) (flag_small row.has_epsilon, (omega arith, tt)),
      most,
    )
  where
    each : (ps : List Production) → All (ProductionInRange skips count) ps → All (λ p. width (production_numbers p) ≤ most_production_bytes) ps
    each [] h = tt
    each (p ∷ ps) h = (production-width skips count p few_rules few h.0, each ps h.1)

-- 1,070 bytes, and so many for each nonterminal.
pub image-width : (i : Image) → InRange i → length (image_bytes i) ≤ 1070 + length i.rows * most_row_bytes
unfolding image_bytes image_numbers
image-width i g =
    let R = length i.skips in
    let P = length i.positions in
    let N = length i.rows in
    let rc = g.rule_count in
    let pc = g.position_count in
    let nc = g.row_count in
    let last = i.first ∷ N ∷ all_numbers row_numbers i.rows in
    let fields = P ∷ (all_numbers position_numbers i.positions ++ last) in
    let flags = width-all flag_number 1 i.skips (all_flags i.skips) in
    let positions = width-all position_numbers 16 i.positions (all_positions i.positions g.positions_in_range) in
    let rows = width-all row_numbers most_row_bytes i.rows (all_rows i.rows g.rows_in_range) in
    let a = width-append (1 ∷ R ∷ []) (all_numbers flag_number i.skips ++ fields) in
    let b = width_small (1 ∷ R ∷ []) (omega arith, (omega arith, tt)) in
    let c = width-append (all_numbers flag_number i.skips) fields in
    let d = width-cons P (all_numbers position_numbers i.positions ++ last) in
    let e = one_byte P (omega arith) in
    let f = width-append (all_numbers position_numbers i.positions) last in
    let h = width-cons i.first (N ∷ all_numbers row_numbers i.rows) in
    let j = encode_ten i.first in
    let k = width-cons N (all_numbers row_numbers i.rows) in
    let l = one_byte N (omega arith) in
    omega arith
  where
    all_flags : (bs : List Bool) → All (λ b. width (flag_number b) ≤ 1) bs
    all_flags [] = tt
    all_flags (b ∷ bs) = (flag-width b, all_flags bs)

    all_positions : (ps : List Position) → All (PositionInRange (length i.skips) (length i.positions)) ps
        → All (λ p. width (position_numbers p) ≤ 16) ps
    all_positions [] h = tt
    all_positions (p ∷ ps) h =
        (position-width (length i.skips) (length i.positions) p g.rule_count h.0, all_positions ps h.1)

    all_rows : (rs : List Row) → All (RowInRange i.skips (length i.rows)) rs → All (λ r. width (row_numbers r) ≤ most_row_bytes) rs
    all_rows [] h = tt
    all_rows (r ∷ rs) h = (row-width i.skips (length i.rows) r g.rule_count g.row_count h.0, all_rows rs h.1)

-- ---- a sheet's image

-- A node that is reached is the start, a right part or a repetition.
reached_within : (rules : List Rule) (e : Expression) (tokens : ℕ) → Closed tokens 0 e → (n : ℕ)
    → Memᴰ n (reached (fused rules (normal_form e)))
    → Memᴰ n (0 ∷ tail_nodes e 0)
reached_within rules e tokens c n m =
    let rows = fused rules (normal_form e) in
    let r = reached-fused rules (normal_form e) (normal_form-inside e tokens c) (normal_form-some e) in
    ⊎_elim (λ z. Memᴰ.head z) (λ k. in_tail (of_flat_map (λ n. flat_map (λ p. p.tail) (row_of rows n).productions) (reached rows) n k))
    (Memᴰ.cases_cons (first_met_member [] (0 ∷ row_by_row rows (reached rows)) n (subst (Memᴰ n) r.in_order m)))
  where
    in_tail : (k : ℕ) × Memᴰ k (reached (fused rules (normal_form e)))
        × Memᴰ n (flat_map (λ p. p.tail) (row_of (fused rules (normal_form e)) k).productions)
        → Memᴰ n (0 ∷ tail_nodes e 0)
    in_tail k =
        let p = of_flat_map (λ p. p.tail) (row_of (fused rules (normal_form e)) k.0).productions n k.2 in
        let f = fused_member rules (normal_form e) k.0 p.0 p.1 in
        all_member (λ x. Memᴰ x (0 ∷ tail_nodes e 0)) f.source.tail (tails_within e k.0 f.source f.member) n
        (subst (Memᴰ n) f.same_tail p.2)

-- At most the start and the nodes that stand in tails.
plain_few : (s : Sheet) → Closed s.tokens 0 s.expression → length (plain_image s).rows ≤ 1 + length (tail_nodes s.expression 0)
unfolding plain_image
plain_few s c =
    let e = s.expression in
    let rows = fused s.rules (normal_form e) in
    let r = reached-fused s.rules (normal_form e) (normal_form-inside e s.tokens c) (normal_form-some e) in
    let few = distinct_few (reached rows) (0 ∷ tail_nodes e 0) r.once (reached_within s.rules e s.tokens c) in
    omega (arith, numbered-count rows)

-- So at most 32 nonterminals.
plain_at_most : (s : Sheet) {a : LanguageType} → WithinLimits s → [] ⊢ s.expression ∶ a → length (plain_image s).rows ≤ 32
plain_at_most s w d =
    let most = w.nodes_most in
    omega (arith, plain_few s w.closed, tail_nodes_few d)

pub nonterminals_at_most : (s : Sheet) {a : LanguageType} → WithinLimits s → [] ⊢ s.expression ∶ a → length (image_of s).rows ≤ 32
unfolding image_of image_sheet
nonterminals_at_most s w d = plain_at_most (image_sheet s) (ordered_limits s w) d

-- 1,070 bytes, and so many for each of 32 nonterminals.
abbrev pub most_image_bytes : ℕ
most_image_bytes = 1070 + 32 * most_row_bytes

-- The image of a sheet that passes has at most so many, with the rules numbered as they stand and in the image's order.
pub plain_fits : (s : Sheet) {a : LanguageType} → WithinLimits s → empty_match s.rules 0 ≡ none → [] ⊢ s.expression ∶ a
    → length (image_bytes (plain_image s)) ≤ most_image_bytes
plain_fits s w m d = omega (arith, image-width (plain_image s) (plain_in_range s w m d), plain_at_most s w d)

pub image_fits : (s : Sheet) {a : LanguageType} → WithinLimits s → empty_match s.rules 0 ≡ none → [] ⊢ s.expression ∶ a
    → length (image_bytes (image_of s)) ≤ most_image_bytes
unfolding image_of image_sheet
image_fits s w m d = plain_fits (image_sheet s) (ordered_limits s w) (ordered_empty_match s.rules m) d
