-- The image's rows do what the rows by token do: a nonterminal stands for a node, and a rule for the token that it returns.
-- Stated for any rows whose tail members are rows' numbers. Nothing here speaks of texts or of what is pending.
use Rattle.std.specs.Prelude.{◌≡◌, refl, Bool, true, false, ℕ, zero, suc, ◌+◌, ◌<◌, eqb, get_or, length}
use Rattle.std.proofs.Common.{sym, ◌∙◌}
use Rattle.std.proofs.Math.Path.{ap, subst}
use mathlib.Core.List.Memᴰ
use mathlib.Core.List.{List, [], ◌∷◌, map, Memᴰ}
use Rattle.std.proofs.Math.Option.{Option, none, some}
use native.Mathlib.Omega.{arith}
use Rattle.std.proofs.lemmas.List.{length-map}
use Rattle.std.proofs.Math.ListN.{get_or-map}
use Rattle.basics.specs.Lists.{All}
use Rattle.sheet.specs.Sheet.{Rule}
use Rattle.normal_form.specs.Productions.{Production, Row, no_productions, row_of, production_of}
use Rattle.image.specs.Fusion.{fused_from, fused}
use Rattle.image.specs.laws.FusionLaws.{fused_row}
use Rattle.image.proofs.laws.ByRule.{by_rule}
use Rattle.image.proofs.laws.FusionLaws.{Returns}
use Rattle.image.proofs.laws.FusionLaws.{as_rule, rule-production, FusedOf, fused_of}
use Rattle.normal_form.proofs.laws.ProductionLaws.{Found, production_found}
use Rattle.basics.proofs.laws.Members.{all_of}
use Rattle.basics.specs.Meeting.{number_of}
use Rattle.image.specs.Numbering.{reached, renumbered, numbered}
use Rattle.basics.specs.laws.MeetingLaws.{Met}
use Rattle.basics.proofs.laws.MeetingLaws.{number_below as node_number}
use Rattle.image.proofs.laws.NumberingLaws.{renumbered_row, TailsInside, Reached, reached_is, row-at-number, tail_member, of_tail_members, numbered-count}
use Rattle.image.specs.laws.Simulation.{tail_of}

-- ---- fusion of all rows

fused-none : (rules : List Rule) (r : ℕ) → fused_from rules r [] ≡ []
unfolding fused_from production_of
fused-none [] r = refl
fused-none (rule ∷ rules) r = go rule.action (fused-none rules (suc r))
  where
    go : (a : ℕ) → fused_from rules (suc r) [] ≡ []
        → ◌≡◌ {A = List Production} (elim a [
          | zero ↦ fused_from rules (suc r) []
          | suc k ↦ by_rule r (production_of k []) (fused_from rules (suc r) [])
        ]) []
    go zero e = e
    go (suc k) e = e

-- A node's fused row is the fusion of its row.
pub fused_row_of : (rules : List Rule) (rows : List Row) (n : ℕ) → row_of (fused rules rows) n ≡ fused_row rules (row_of rows n)
unfolding fused
fused_row_of rules rows n =
    ap (get_or (map (fused_row rules) rows) n) (λ i. record { has_epsilon = false; productions = sym (fused-none rules 0) i })
    ∙ get_or-map (fused_row rules) rows n no_productions

pub fused-length : (rules : List Rule) (rows : List Row) → length (fused rules rows) ≡ length rows
unfolding fused
fused-length rules rows = length-map rows (fused_row rules)

-- A production of a node's fused row.
pub fused_member : (rules : List Rule) (rows : List Row) (n : ℕ) (p : Production) → Memᴰ p (row_of (fused rules rows) n).productions
    → FusedOf rules 0 (row_of rows n).productions p
fused_member rules rows n p m =
    fused_of rules 0 (row_of rows n).productions p (subst (λ (r : Row). Memᴰ p r.productions) (fused_row_of rules rows n) m)

-- Fusion adds no tail member.
pub fused-inside : (rules : List Rule) (rows : List Row) → TailsInside rows → TailsInside (fused rules rows)
fused-inside rules rows inside n x m =
    let t = of_tail_members x (row_of (fused rules rows) n).productions m in
    let f = fused_member rules rows n t.0 t.1 in
    let l = fused-length rules rows in
    let b : x < length rows = inside n x (tail_member f.source x (row_of rows n).productions f.member
    (subst (λ (t : List ℕ). Memᴰ x t) f.same_tail t.2)) in
    omega arith

abbrev pub tail_numbers : (ℕ → ℕ) → Option Production → Option (List ℕ)
tail_numbers number none = none
tail_numbers number (some p) = some (map number p.tail)

abbrev pub TailKnown : (ℕ → Type 0) → Option Production → Type 0
TailKnown Known none = Unit
TailKnown Known (some p) = All Known p.tail

-- The image's rows do what the rows by token do: node n has a number, as long as it is known; known are the start and what is
-- reached from it.
pub record Simulates (rules : List Rule) (rows image : List Row) (number : ℕ → ℕ) (Known : ℕ → Type 0) : Type 0 where
  pub start_known : Known 0
  pub start_number : number 0 ≡ 0
  pub number_below : (n : ℕ) → Known n → number n < length image
  pub same_epsilon : (n : ℕ) → Known n → (row_of image (number n)).has_epsilon ≡ (row_of rows n).has_epsilon
  -- a rule that returns t has the production of t, its tail in numbers
  pub same_production : (n : ℕ) → Known n → (r t : ℕ) → Returns rules r t
      → tail_of (production_of r (row_of image (number n)).productions) ≡ tail_numbers number
      (production_of t (row_of rows n).productions)
  -- that tail is known too
  pub closed : (n : ℕ) → Known n → (r t : ℕ) → Returns rules r t → TailKnown Known (production_of t (row_of rows n).productions)
  -- every production of the image's row is of a rule that returns the token of one of the node's productions
  pub sources : (n : ℕ) → Known n → (p : Production) → Memᴰ p (row_of image (number n)).productions
      → (q : Production) × Memᴰ q (row_of rows n).productions × Returns rules p.head q.head ×
      (p.tail ≡ map number q.tail) × All Known q.tail

-- A renumbered row's production of a rule.
renumbered-production : (number : List ℕ) (r : ℕ) (ps : List Production)
    → tail_of (production_of r (map (renumbered number) ps)) ≡ tail_numbers (number_of number) (production_of r ps)
unfolding production_of renumbered
renumbered-production number r [] = refl
renumbered-production number r (p ∷ ps) = go (eqb p.head r) (renumbered-production number r ps)
  where
    go : (b : Bool) → tail_of (production_of r (map (renumbered number) ps)) ≡ tail_numbers (number_of number) (production_of r ps)
        → tail_of (elim b [ true ↦ some (renumbered number p) | false ↦ production_of r (map (renumbered number) ps) ])
        ≡ tail_numbers (number_of number) (elim b [ true ↦ some p | false ↦ production_of r ps ])
    go true e = refl
    go false e = e

as_rule-numbers : (number : ℕ → ℕ) (r : ℕ) (o : Option Production) → tail_numbers number (as_rule r o) ≡ tail_numbers number o
as_rule-numbers number r none = refl
as_rule-numbers number r (some p) = refl

module _ (rules : List Rule) (rows : List Row) (inside : TailsInside rows) (some_rows : 0 < length rows) where
  abbrev all_fused : List Row
  all_fused = fused rules rows

  abbrev met : List ℕ
  met = reached (fused rules rows)

  pub reached-fused : Reached (fused rules rows) (reached (fused rules rows))
  reached-fused = reached_is (fused rules rows) (fused-inside rules rows inside) (let l = fused-length rules rows in omega arith)

  -- The image's row of a node, in one step.
  image_row : (n : ℕ) → Met n met → row_of (numbered all_fused) (number_of met n) ≡ renumbered_row all_fused met n
  image_row n t = row-at-number all_fused n t

  same_production : (n : ℕ) → Met n met → (r t : ℕ) → Returns rules r t
      → tail_of (production_of r (row_of (numbered all_fused) (number_of met n)).productions)
      ≡ tail_numbers (number_of met) (production_of t (row_of rows n).productions)
  same_production n t r k h =
      ap (λ (w : Row). tail_of (production_of r w.productions)) (image_row n t)
      ∙ renumbered-production met r (row_of all_fused n).productions
      ∙ ap (λ (w : Row). tail_numbers (number_of met) (production_of r w.productions)) (fused_row_of rules rows n)
      ∙ ap (tail_numbers (number_of met)) (rule-production h (row_of rows n).productions)
      ∙ as_rule-numbers (number_of met) r (production_of k (row_of rows n).productions)

  closed : (n : ℕ) → Met n met → (r t : ℕ) → Returns rules r t → TailKnown (λ x. Met x met) (production_of t (row_of rows n).productions)
  closed n t r k h =
      go (production_of k (row_of rows n).productions)
      (subst (Found r (row_of all_fused n).productions)
      (ap (λ (w : Row). production_of r w.productions) (fused_row_of rules rows n) ∙ rule-production h (row_of rows n).productions)
      (production_found r (row_of all_fused n).productions))
    where
      go : (o : Option Production) → Found r (row_of all_fused n).productions (as_rule r o) → TailKnown (λ x. Met x met) o
      go none f = tt
      go (some p) f =
          all_of (λ x. Met x met) p.tail
          (λ x m. reached-fused.closed n t x (tail_member (record { head = r; tail = p.tail }) x (row_of all_fused n).productions
          f.0 m))

  sources : (n : ℕ) → Met n met → (p : Production) → Memᴰ p (row_of (numbered all_fused) (number_of met n)).productions
      → (q : Production) × Memᴰ q (row_of rows n).productions × Returns rules p.head q.head ×
      (p.tail ≡ map (number_of met) q.tail) × All (λ x. Met x met) q.tail
  unfolding renumbered
  sources n t p m =
      let o = Memᴰ.of_map (renumbered met) (row_of all_fused n).productions
      (subst (λ (w : Row). Memᴰ p w.productions) (image_row n t) m) in
      let f = fused_member rules rows n o.0 o.1 in
      let at : p.head ≡ f.offset = ap (λ (z : Production). z.head) (sym o.2) ∙ f.rule ∙
      (let z : 0 + f.offset ≡ f.offset = omega arith in z) in (
        f.source,
        f.member,
        subst (λ (z : ℕ). Returns rules z f.source.head) (sym at) f.returned,
        ap (λ (z : Production). z.tail) (sym o.2) ∙ ap (map (number_of met)) f.same_tail,
        all_of (λ x. Met x met) f.source.tail
            (λ x k. reached-fused.closed n t x (tail_member o.0 x (row_of all_fused n).productions o.1
            (subst (λ (l : List ℕ). Memᴰ x l) (sym f.same_tail) k))),
      )

  -- The image's rows, made by fusion, reaching and numbering, do what the rows by token do.
  pub image_simulates : Simulates rules rows (numbered (fused rules rows)) (number_of (reached (fused rules rows)))
      (λ n. Met n (reached (fused rules rows)))
  image_simulates = record {
    start_known = reached-fused.starts;
    start_number = reached-fused.start_number;
    number_below = λ n t. let b = node_number n met t in let c = numbered-count all_fused in omega (arith, b.0);
    same_epsilon = λ n t. ap (λ (w : Row). w.has_epsilon) (image_row n t) ∙ ap (λ (w : Row). w.has_epsilon) (fused_row_of rules rows n);
    same_production = same_production;
    closed = closed;
    sources = sources;
  }

-- A number that returns no token, of a rule that skips or of none, has no production.
pub no_token_production : {rules : List Rule} {rows image : List Row} {number : ℕ → ℕ} {Known : ℕ → Type 0}
    → Simulates rules rows image number Known
    → (n : ℕ) → Known n → (r : ℕ) → ((t : ℕ) → Returns rules r t → ⊥) → production_of r (row_of image (number n)).productions ≡ none
no_token_production {rules} {rows} {image} {number} {Known} s n k r none_returned =
    go (production_of r (row_of image (number n)).productions) (production_found r (row_of image (number n)).productions)
  where
    go : (o : Option Production) → Found r (row_of image (number n)).productions o → o ≡ none
    go none f = refl
    go (some p) f =
        let o = s.sources n k p f.0 in
        absurd (none_returned o.0.head (subst (λ (z : ℕ). Returns rules z o.0.head) f.1 o.2))
