-- The image from its parts: the parts that the columns of a sheet give are the numbers of the sheet's image.
use mathlib.Core.Path.{◌≡◌, refl, sym, ap, ◌∙◌}
use mathlib.Core.Bool.{Bool, false}
use mathlib.Core.List.{List, [], ◌∷◌, ◌++◌, map, append_assoc}
use Prim.Native.Nat.{ℕ, ◌≤◌, ◌<◌}
use native.Mathlib.Omega.{arith}
use native.Mathlib.Nat.{zero-add}
use lib.Dec.{eqb}
use lib.ListN.{get_or, length, drop, length-map}
use lib.Seq.{get_or-take}
use Rattle.sheet.specs.Expression.{Expression}
use Rattle.sheet.specs.Regex.{empty}
use Rattle.sheet.specs.Sheet.{Rule, Sheet}
use Rattle.sheet.specs.Spelling.{spell}
use Rattle.normal_form.specs.Productions.{Row, no_productions, row_of}
use Rattle.normal_form.specs.NormalForm.{normal_form}
use Rattle.lexer.specs.Positions.{Position, positions}
use Rattle.columns.specs.HeldPositions.{held_positions}
use Rattle.columns.proofs.laws.HeldAt.{positions-counted, position-held}
use Rattle.columns.specs.declared.PositionColumns.{PositionColumns}
use Rattle.image.specs.Fusion.{fused}
use Rattle.image.specs.laws.FusionLaws.{fused_row}
use Rattle.image.specs.Image.{Image, plain_image, image_bytes, flag, all_numbers, flag_number, position_numbers, row_numbers, image_numbers}
use Rattle.image.proofs.laws.RowRanges.{skips_rule}
use Rattle.image.specs.Numbering.{reached, numbered}
use Rattle.basics.proofs.laws.Members.{get_or-map-inside}
use Rattle.image.proofs.laws.NumberingLaws.{renumbered_row, numbered-count, numbered-row}
use Rattle.image.proofs.laws.Simulation.{fused_row_of}
use Rattle.node_numbering.specs.laws.Below.{concat_below}
use Rattle.node_numbering.proofs.laws.Below.{concat_below_list}
use Rattle.node_numbering.specs.Grammar.{GrammarOf}
use Rattle.node_numbering.specs.declared.Grammar.{Grammar}
use Rattle.image_encoder.specs.laws.Emitted.{Emitted}
use Rattle.image_encoder.proofs.laws.Emitted.{emitted_append, emitted_same, emitted_all}
use Rattle.image_encoder.specs.Parts.{skip_number, rules_part, position_part, positions_part, mapped_row, row_part, numbered_row_part, rows_part, PartsOf}

-- ---- the rules

module _ (g : Grammar) (rules : List Rule) (e : Expression) (h : GrammarOf g rules e) where
  rules_count : g.rules ≡ length (map skips_rule rules)
  rules_count = h.rule_count ∙ sym (length-map rules skips_rule)

  skips_are : concat_below (skip_number g) g.rules ≡ all_numbers flag_number (map skips_rule rules)
  skips_are =
      ap (concat_below (skip_number g)) rules_count
      ∙ concat_below_list (skip_number g) flag_number (map skips_rule rules) false
      (λ k l. one k (let z : k < length rules = omega (arith, length-map rules skips_rule) in z))
    where
      other : Rule
      other = record { action = 0; regex = empty }

      one : (k : ℕ) → k < length rules → skip_number g k ≡ flag_number (get_or (map skips_rule rules) k false)
      one k l = unfold skip_number in
          ap (λ (b : Bool). flag b ∷ [])
          (ap (λ (a : ℕ). eqb a 0)
          (sym (get_or-take g.rules g.action k 0 (omega (arith, h.rule_count))) ∙ ap (λ (m : List ℕ). get_or m k 0) h.actions_held
          ∙ get_or-map-inside (λ rule. rule.action) rules k other 0 l)
          ∙ sym (get_or-map-inside skips_rule rules k other false l))

-- ---- the positions

module _ (p : PositionColumns) (ps : List Position) (h : held_positions p ≡ ps) where
  positions_count : p.count ≡ length ps
  positions_count = sym (positions-counted p ps h)

  places_are : concat_below (position_part p) p.count ≡ all_numbers position_numbers ps
  places_are =
      ap (concat_below (position_part p)) positions_count
      ∙ concat_below_list (position_part p) position_numbers ps other
      (λ k l. one k (let c = positions_count in let z : k < p.count = omega arith in z))
    where
      other : Position
      other = record { low = 0; high = 0; rule = 0; last = false; follow = 0 }

      one : (k : ℕ) → k < p.count → position_part p k ≡ position_numbers (get_or ps k other)
      one k l = unfold position_part in ap position_numbers (position-held p ps h k other l)

-- ---- the rows

module _ (rules : List Rule) (e : Expression) where
  abbrev rows : List Row
  rows = fused rules (normal_form e)

  abbrev met : List ℕ
  met = reached (fused rules (normal_form e))

  row_same : (node : ℕ) → mapped_row (reached (fused rules (normal_form e))) (fused_row rules (row_of (normal_form e) node))
      ≡ renumbered_row (fused rules (normal_form e)) (reached (fused rules (normal_form e))) node
  row_same node = ap (mapped_row met) (sym (fused_row_of rules (normal_form e) node)) ∙ (unfold mapped_row in refl)

  rows_count : length (reached (fused rules (normal_form e))) ≡ length (numbered (fused rules (normal_form e)))
  rows_count = sym (numbered-count rows)

  rows_numbers : concat_below (numbered_row_part (reached (fused rules (normal_form e))) rules e) (length (reached (fused rules (normal_form e))))
      ≡ all_numbers row_numbers (numbered (fused rules (normal_form e)))
  rows_numbers =
      ap (concat_below (numbered_row_part met rules e)) rows_count
      ∙ concat_below_list (numbered_row_part met rules e) row_numbers (numbered rows) no_productions
      (λ k l. one k (let a = numbered-count rows in let z : k < length met = omega arith in z))
    where
      one : (k : ℕ) → k < length (reached (fused rules (normal_form e)))
          → row_part (reached (fused rules (normal_form e))) rules e (get_or (reached (fused rules (normal_form e))) k 0)
          ≡ row_numbers (row_of (numbered (fused rules (normal_form e))) k)
      one k l = unfold row_part in ap row_numbers (row_same (get_or met k 0) ∙ sym (numbered-row rows k l))

-- ---- the image

same_parts : {r r' p p' f f' n n' : ℕ} {a a' b b' d d' : List ℕ} → r ≡ r' → a ≡ a' → p ≡ p' → b ≡ b' → f ≡ f' → n ≡ n' → d ≡ d'
    → (1 ∷ r ∷ a) ++ ((p ∷ (b ++ (f ∷ []))) ++ (n ∷ d)) ≡ 1 ∷ r' ∷ (a' ++ (p' ∷ (b' ++ (f' ∷ n' ∷ d'))))
same_parts {r} {r'} {p} {p'} {f} {f'} {n} {n'} {a} {a'} {b} {b'} {d} {d'} e1 e2 e3 e4 e5 e6 e7 =
    ap (λ (l : List ℕ). 1 ∷ r ∷ (a ++ (p ∷ l))) (append_assoc b (f ∷ []) (n ∷ d)) ∙ (let z : 1 ∷ r ∷ (a ++ (p ∷ (b ++
    (f ∷ n ∷ d)))) ≡ 1 ∷ r' ∷ (a' ++ (p' ∷ (b' ++ (f' ∷ n' ∷ d')))) = cc in z)

module _ (g : Grammar) (p : PositionColumns) (s : Sheet) (h : PartsOf g p s) where
  parts_numbers : rules_part g ++ (positions_part p ++ rows_part s.rules s.expression) ≡ image_numbers (plain_image s)
  unfolding rules_part positions_part rows_part image_numbers plain_image
  parts_numbers = same_parts
      (rules_count g s.rules s.expression h.grammar) (skips_are g s.rules s.expression h.grammar)
      (positions_count p (positions s.rules) h.positions_held) (places_are p (positions s.rules) h.positions_held)
      h.first_held (rows_count s.rules s.expression) (rows_numbers s.rules s.expression)

  pub image_emitted : {a b d f : List ℕ} {at v n m : ℕ} → Emitted a b at v (rules_part g) → Emitted b d v n (positions_part p)
      → Emitted d f n m (rows_part s.rules s.expression) → Emitted a f at m (image_numbers (plain_image s))
  image_emitted x y z = emitted_same parts_numbers (emitted_append x (emitted_append y z))

-- ---- the bytes

pub image_measured : {a b : List ℕ} {j : ℕ} (i : Image) → Emitted a b 0 j (image_numbers i) → j ≡ length (image_bytes i)
unfolding image_bytes
image_measured i x = x.cursor ∙ zero-add (length (spell (image_numbers i)))

pub image-written : {a b : List ℕ} {j : ℕ} (i : Image) → Emitted a b 0 j (image_numbers i) → length (image_bytes i) ≤ length a
    → b ≡ image_bytes i ++ drop (length (image_bytes i)) a
unfolding image_bytes
image-written i x room = emitted_all x room
