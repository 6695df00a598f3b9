-- The nodes reached from the start of a grammar are nodes of its expression.
use Rattle.std.specs.Prelude.{◌≡◌, ℕ, ◌<◌, get_or, length}
use Rattle.std.proofs.Common.{subst, ◌∙◌, ⊎_elim, arith}
use mathlib.Core.List.Memᴰ
use mathlib.Core.List.{List, [], ◌∷◌, flat_map, Memᴰ}
use Rattle.sheet.specs.Expression.{Expression, size}
use Rattle.sheet.specs.Sheet.{Rule}
use Rattle.normal_form.specs.Productions.{Production, Row, row_of}
use Rattle.normal_form.specs.NormalForm.{normal_form}
use Rattle.normal_form.proofs.laws.KeptRows.{normal_form-length}
use Rattle.image.specs.Fusion.{fused}
use Rattle.image.proofs.laws.ImageLaws.{normal_form-inside, normal_form-some}
use Rattle.basics.proofs.laws.Members.{member_at, of_flat_map}
use Rattle.basics.proofs.laws.MeetingLaws.{first_met_member}
use Rattle.image.specs.Numbering.{reached}
use Rattle.image.proofs.laws.NumberingLaws.{row_by_row, Reached, TailsInside, tail_member}
use Rattle.image.proofs.laws.Simulation.{fused-length, fused-inside, reached-fused}
use Rattle.node_numbering.specs.Grammar.{GrammarOf}
use Rattle.node_numbering.specs.declared.Grammar.{Grammar}

-- The nodes reached are rows' numbers.
reached-nodes : (rows : List Row) → TailsInside rows → 0 < length rows → Reached rows (reached rows) → (x : ℕ)
    → Memᴰ x (reached rows) → x < length rows
reached-nodes rows inside some r x m =
    ⊎_elim (λ e. omega arith)
    (λ k. let a = of_flat_map (λ n. flat_map_tails (row_of rows n).productions) (reached rows) x k in
    let b = of_flat_map (λ p. p.tail) (row_of rows a.0).productions x a.2 in
    inside a.0 x (tail_member b.0 x (row_of rows a.0).productions b.1 b.2))
    (Memᴰ.cases_cons (first_met_member [] (0 ∷ row_by_row rows (reached rows)) x (subst (Memᴰ x) r.in_order m)))
  where
    flat_map_tails : List Production → List ℕ
    flat_map_tails ps = flat_map (λ p. p.tail) ps

module _ (g : Grammar) (rules : List Rule) (e : Expression) (h : GrammarOf g rules e) where
  abbrev all_rows : List Row
  all_rows = fused rules (normal_form e)

  pub rows-size : length all_rows ≡ size e
  rows-size = fused-length rules (normal_form e) ∙ normal_form-length e

  inside_all : TailsInside all_rows
  inside_all = fused-inside rules (normal_form e) (normal_form-inside e h.columns.tokens h.columns.closed)

  pub reached-here : Reached all_rows (reached all_rows)
  reached-here = reached-fused rules (normal_form e) (normal_form-inside e h.columns.tokens h.columns.closed) (normal_form-some e)

  -- The node with a number is one of the expression's.
  pub reached-inside : (i : ℕ) → i < length (reached (fused rules (normal_form e))) → get_or (reached (fused rules (normal_form e))) i 0 < size e
  reached-inside i l =
      let s = rows-size in
      let some : 0 < length all_rows = omega (arith, normal_form-some e, normal_form-length e) in
      let below = reached-nodes all_rows inside_all some reached-here (get_or (reached all_rows) i 0) (member_at (reached all_rows) i 0 l) in
      omega arith
