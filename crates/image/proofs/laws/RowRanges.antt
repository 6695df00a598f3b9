-- The rows that fusion, reaching and numbering make are in range, for any rows by token whose tails are short and inside.
use Rattle.std.specs.Prelude.{◌≡◌, Bool, true, false, ℕ, suc, ◌≤◌, ◌<◌, get_or, length, eqb}
use Rattle.std.proofs.Math.Path.{refl}
use Rattle.std.proofs.Common.{sym, ap, subst, ◌∙◌, arith, ne_eqb}
use mathlib.Core.List.{List, [], ◌∷◌, map, Memᴰ}
use Rattle.std.proofs.lemmas.List.{length-map}
use Rattle.basics.specs.Lists.{All}
use Rattle.sheet.specs.Limits.{most_rules}
use Rattle.sheet.specs.Sheet.{Rule}
use Rattle.normal_form.specs.Productions.{Production, Row, row_of, most_tail}
use Rattle.lexer.specs.Words.{RuleAt, first_rule, later_rule}
use Rattle.image.specs.Fusion.{fused_from, fused}
use Rattle.image.proofs.laws.FusionLaws.{fused_rising, fused-count}
use Rattle.image.specs.ImageRanges.{ProductionInRange, Rising, RowInRange}
use Rattle.basics.proofs.laws.Members.{all_of, all_member, all-map}
use Rattle.basics.specs.Meeting.{number_of}
use Rattle.image.specs.Numbering.{reached, renumbered, numbered}
use Rattle.basics.specs.laws.MeetingLaws.{Met}
use Rattle.basics.proofs.laws.MeetingLaws.{met_member}
use Rattle.image.proofs.laws.NumberingLaws.{renumbered_row, TailsInside, numbered-count, row-at-number}
use Rattle.image.proofs.laws.Simulation.{image_simulates, fused_row_of, fused-length, reached-fused}

abbrev pub skips_rule : Rule → Bool
skips_rule r = eqb r.action 0

-- Every production's tail has a length that an image can hold.
abbrev pub TailsShort : List Row → Type 0
TailsShort rows = (n : ℕ) (p : Production) → Memᴰ p (row_of rows n).productions → length p.tail ≤ most_tail

pub rule_below : {rules : List Rule} {k : ℕ} {rule : Rule} → RuleAt rules k rule → k < length rules
rule_below first_rule = omega arith
rule_below (later_rule a) = let h = rule_below a in omega arith

rule-not_skipping : {rules : List Rule} {k : ℕ} {rule : Rule} → RuleAt rules k rule → {t : ℕ} → rule.action ≡ suc t
    → get_or (map skips_rule rules) k true ≡ false
rule-not_skipping (first_rule {r = rule}) e = ne_eqb rule.action 0 (omega arith)
rule-not_skipping (later_rule a) e = rule-not_skipping a e

rising_renumbered : (met : List ℕ) (least : ℕ) (ps : List Production) → Rising least ps → Rising least (map (renumbered met) ps)
unfolding renumbered
rising_renumbered met least [] r = tt
rising_renumbered met least (p ∷ ps) r = (r.0, rising_renumbered met (suc p.head) ps r.1)

module _ (rules : List Rule) (rows : List Row) (inside : TailsInside rows) (some_rows : 0 < length rows) (short : TailsShort rows)
    (few : length rules ≤ most_rules) where
  abbrev image : List Row
  image = numbered (fused rules rows)

  abbrev met : List ℕ
  met = reached (fused rules rows)

  -- A node's productions in the image, as fusion and numbering made them.
  made : (n : ℕ) → Met n met
      → (row_of image (number_of met n)).productions ≡ map (renumbered met) (fused_from rules 0 (row_of rows n).productions)
  made n t =
      ap (λ (w : Row). w.productions) (row-at-number (fused rules rows) n t)
      ∙ ap (λ (w : Row). map (renumbered met) w.productions) (fused_row_of rules rows n)

  production_range : (n : ℕ) → Met n met → (p : Production) → Memᴰ p (row_of image (number_of met n)).productions
      → ProductionInRange (map skips_rule rules) (length image) p
  production_range n t p m =
      let s = image_simulates rules rows inside some_rows in
      let o = s.sources n t p m in
      let b = rule_below o.2.at in
      let l = length-map rules skips_rule in
      let c = length-map o.0.tail (number_of met) in
      let d = short n o.0 o.1 in record {
        rule_below = omega arith;
        not_skipping = rule-not_skipping o.2.at o.2.returns;
        tail_length = subst (λ (tail : List ℕ). length tail ≤ most_tail) (sym o.3) (omega arith);
        members_below = subst (All (λ n. n < length image)) (sym o.3)
            (all-map (λ n. n < length image) (number_of met) o.0.tail
            (all_of (λ n. number_of met n < length image) o.0.tail
            (λ x k. s.number_below x (all_member (λ x. Met x met) o.0.tail o.4 x k))));
      }

  row_range : (n : ℕ) → Met n met → RowInRange (map skips_rule rules) (length image) (row_of image (number_of met n))
  row_range n t =
      let ps = fused_from rules 0 (row_of rows n).productions in
      let c = fused-count rules 0 (row_of rows n).productions in
      let l = length-map ps (renumbered met) in
      let e = ap (λ (l : List Production). length l) (made n t) in record {
        production_count = omega arith;
        productions_in_range = all_of (ProductionInRange (map skips_rule rules) (length image)) _ (production_range n t);
        rising = subst (Rising 0) (sym (made n t)) (rising_renumbered met 0 ps (fused_rising rules 0 (row_of rows n).productions));
      }

  pub rows_in_range : All (RowInRange (map skips_rule rules) (length (numbered (fused rules rows)))) (numbered (fused rules rows))
  rows_in_range = subst (All (RowInRange (map skips_rule rules) (length image))) (sym made_all)
      (all-map (RowInRange (map skips_rule rules) (length image)) (renumbered_row (fused rules rows) met) met
      (all_of (λ n. RowInRange (map skips_rule rules) (length image) (renumbered_row (fused rules rows) met n)) met
      (λ n m. let t = met_member n met m in
      subst (RowInRange (map skips_rule rules) (length image)) (row-at-number (fused rules rows) n t) (row_range n t))))
    where
      made_all : numbered (fused rules rows)
          ≡ map (renumbered_row (fused rules rows) (reached (fused rules rows))) (reached (fused rules rows))
      made_all = unfold numbered in refl

  pub some-image-rows : 1 ≤ length (numbered (fused rules rows))
  some-image-rows =
      let s = image_simulates rules rows inside some_rows in
      let b = s.number_below 0 s.start_known in omega arith

  -- At most as many nonterminals as nodes.
  pub image-row-count : length (numbered (fused rules rows)) ≤ length rows
  image-row-count =
      let a = numbered-count (fused rules rows) in
      let b = fused-length rules rows in
      let c = (reached-fused rules rows inside some_rows).few in omega arith
