-- The image of a sheet that keeps the limits, whose rules match only non-empty words and whose expression has a type: it is in
-- range, it is read back from its bytes, and its start unfolds to the rule sequences that the sheet denotes (demand 2).
use Rattle.std.specs.Prelude.{◌≡◌, List, [], ◌∷◌, ◌↔◌, ℕ, ◌^◌, ◌<◌, length}
use Rattle.std.proofs.Common.{sym, ap, subst, arith}
use Rattle.std.proofs.Math.Option.{none}
use Rattle.std.proofs.lemmas.List.{length-map}
use Rattle.basics.specs.Lists.{All}
use Rattle.sheet.specs.Expression.{Expression, size}
use Rattle.sheet.specs.Sheet.{Rule, Sheet}
use Rattle.sheet.specs.WellFormed.{WithinLimits, Closed}
use Rattle.sheet.specs.Field.{got}
use Rattle.types.specs.Types.{LanguageType, ◌⊢◌∶◌}
use Rattle.normal_form.specs.Productions.{Production, row_of}
use Rattle.normal_form.specs.NormalForm.{normal_form}
use Rattle.normal_form.proofs.laws.NormalFormLaws.{normal_form_fits}
use Rattle.normal_form.proofs.laws.KeptRows.{normal_form-length}
use Rattle.normal_form.proofs.laws.Expansion.{normalization_sound}
use Rattle.normal_form.proofs.laws.Tails.{sequence_count_bound, normal_form-in_range, tails_at_most}
use Rattle.lexer.specs.RuleOrder.{image_sheet, WordsAbove}
use Rattle.lexer.proofs.laws.RuleOrderLaws.{order_kept}
use Rattle.lexer.proofs.laws.OrderedMatches.{ordered_empty_match, ordered_limits}
use Rattle.lexer.specs.Positions.{Position, positions, empty_match}
use Rattle.lexer.specs.laws.PositionBounds.{ByteClass}
use Rattle.lexer.proofs.laws.PositionBounds.{positions_in_range}
use Rattle.image.specs.Image.{plain_image, image_of, image_bytes}
use Rattle.image.specs.ImageRanges.{PositionInRange, InRange}
use Rattle.image.specs.ImageReading.{read_image}
use Rattle.image.proofs.laws.ReadableImages.{read_back}
use Rattle.basics.proofs.laws.Members.{all_member}
use Rattle.image.proofs.laws.NumberingLaws.{TailsInside, of_tail_members}
use Rattle.image.proofs.laws.RowRanges.{skips_rule, TailsShort, rows_in_range, some-image-rows, image-row-count}
use Rattle.types.specs.Denotation.{Denotes}
use Rattle.image.specs.Unfolding.{StartUnfolds, SpellsTokens, DenotedRules}
use Rattle.image.proofs.laws.UnfoldingLaws.{OnePerToken, image_unfolds}

-- ---- the normal form as fusion and numbering want it

pub normal_form-inside : (e : Expression) (tokens : ℕ) → Closed tokens 0 e → TailsInside (normal_form e)
normal_form-inside e tokens c n x m =
    let o = of_tail_members x (row_of (normal_form e) n).productions m in
    let b : x < size e = all_member (λ i. i < size e) o.0.tail (normal_form-in_range e tokens c n o.0 o.1).tail_below x o.2 in
    omega (arith, normal_form-length e)

pub normal_form-some : (e : Expression) → 0 < length (normal_form e)
normal_form-some e = omega (arith, normal_form-length e, sequence_count_bound e)

pub normal_form_one : {e : Expression} {a : LanguageType} → [] ⊢ e ∶ a → OnePerToken (normal_form e)
normal_form_one d n p q m k h = ap (λ (r : Production). r.tail) ((normal_form_fits d).one_each n p q m k h)

-- ---- what the start unfolds to

-- With the rules numbered as they stand.
plain_denotes : (s : Sheet) {a : LanguageType} → Closed s.tokens 0 s.expression → [] ⊢ s.expression ∶ a → (ks : List ℕ)
    → StartUnfolds (plain_image s).rows ks ↔ ((ts : List ℕ) × Denotes s.expression ts × SpellsTokens s.rules ks ts)
unfolding plain_image
plain_denotes s c d ks =
    let e = s.expression in
    let image = image_unfolds s.rules (normal_form e) (normal_form-inside e s.tokens c) (normal_form-some e) (normal_form_one d) ks in (
      λ u. let r = image.0 u in (r.0, (normalization_sound d r.0).1 r.1, r.2),
      λ r. image.1 (r.0, (normalization_sound d r.0).0 r.1, r.2),
    )

-- The image's start unfolds to exactly the rule sequences that spell a token sequence which the expression denotes.
pub image_denotes : (s : Sheet) {a : LanguageType} → Closed s.tokens 0 s.expression → [] ⊢ s.expression ∶ a → (ks : List ℕ)
    → StartUnfolds (image_of s).rows ks ↔ DenotedRules s ks
unfolding image_of image_sheet
image_denotes s c d ks = plain_denotes (image_sheet s) c d ks

-- ---- ranges

position_ranges : (rules count : ℕ) (ps : List Position) → All ByteClass ps → All (λ p. p.rule < rules) ps
    → All (λ p. p.follow < 2 ^ count) ps
    → All (PositionInRange rules count) ps
position_ranges rules count [] b r f = tt
position_ranges rules count (p ∷ ps) b r f = (
  record { low_high = b.0.0; high_byte = b.0.1; rule_below = r.0; follow_below = f.0 },
  position_ranges rules count ps b.1 r.1 f.1,
)

pub plain_in_range : (s : Sheet) {a : LanguageType} → WithinLimits s → empty_match s.rules 0 ≡ none → [] ⊢ s.expression ∶ a
    → InRange (plain_image s)
unfolding plain_image
plain_in_range s w m d =
    let e = s.expression in
    let l = length-map s.rules skips_rule in
    let rl = w.rules_least in
    let rm = w.rules_most in
    let p = positions_in_range s w m in
    let inside = normal_form-inside e s.tokens w.closed in
    let short : TailsShort (normal_form e) = tails_at_most d w.nodes_most in
    let count = image-row-count s.rules (normal_form e) inside (normal_form-some e) short rm in
    let nodes = w.nodes_most in record {
      some_rules = omega arith;
      rule_count = omega arith;
      some_positions = p.count_least;
      position_count = p.count_most;
      positions_in_range = subst (λ (r : ℕ). All (PositionInRange r (length (positions s.rules))) (positions s.rules)) (sym l)
          (position_ranges (length s.rules) (length (positions s.rules)) (positions s.rules) p.byte_classes p.rules_under
          p.follows_under);
      never_falling = p.rules_rising;
      first_below = p.first_under;
      some_rows = some-image-rows s.rules (normal_form e) inside (normal_form-some e) short rm;
      row_count = omega (arith, normal_form-length e);
      rows_in_range = rows_in_range s.rules (normal_form e) inside (normal_form-some e) short rm;
    }

pub image-in_range : (s : Sheet) {a : LanguageType} → WithinLimits s → empty_match s.rules 0 ≡ none → [] ⊢ s.expression ∶ a
    → InRange (image_of s)
unfolding image_of image_sheet
image-in_range s w m d = plain_in_range (image_sheet s) (ordered_limits s w) (ordered_empty_match s.rules m) d

-- ---- the order of the rules

-- Where no other rule stands above a word rule, the image is the one with the rules numbered as they stand.
pub numbering_kept : (s : Sheet) → WordsAbove s.rules → image_of s ≡ plain_image s
unfolding image_of image_sheet
numbering_kept s h = ap (λ (rules : List Rule). plain_image (record { tokens = s.tokens; rules = rules; expression = s.expression })) (order_kept s.rules h)

-- ---- the bytes

-- The image's bytes are readable, and give the image.
pub image-read_back : (s : Sheet) {a : LanguageType} → WithinLimits s → empty_match s.rules 0 ≡ none → [] ⊢ s.expression ∶ a
    → read_image (image_bytes (image_of s)) ≡ got (image_of s) (length (image_bytes (image_of s)))
image-read_back s w m d = read_back (image_of s) (image-in_range s w m d)
