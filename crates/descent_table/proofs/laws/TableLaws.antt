-- Columns of a typed expression: those of a checked sheet are so, and their links fit. And a table that has the entries of every node is the
-- expression's.
use Rattle.std.specs.Prelude.{◌≡◌, refl, Bool, true, false, cond, List, [], ◌↔◌, ℕ, ◌^◌, ◌≤◌, ◌<◌}
use Rattle.std.proofs.Common.{sym, ◌∙◌, arith}
use Rattle.std.proofs.Math.Path.{subst}
use Rattle.std.proofs.Math.Option.{none}
use Rattle.std.proofs.Math.ListN.{get_or}
use Rattle.basics.specs.Bits.{bit}
use Rattle.sheet.specs.Expression.{Expression, size}
use Rattle.sheet.specs.Limits.{most_tokens}
use Rattle.sheet.specs.Sheet.{Sheet}
use Rattle.sheet.specs.WellFormed.{WithinLimits}
use Rattle.types.specs.LeastTypes.{type_of, least_types}
use Rattle.types.specs.Languages.{Begins}
use Rattle.types.specs.NodeLanguages.{language_of}
use Rattle.types.specs.Nodes.{nodes, node_at}
use Rattle.types.specs.Questions.{type_fault}
use Rattle.types.specs.Types.{LanguageType, ◌⊢◌∶◌, HasType}
use Rattle.types.specs.Solutions.{Solves}
use Rattle.types.proofs.laws.LeastTypeLaws.{least_solves, least_fits}
use Rattle.types.proofs.laws.TypeWeight.{first_small}
use Rattle.types.specs.laws.NodeRanges.{NodeInRange}
use Rattle.types.proofs.laws.NodeRanges.{in_range-more, node_in_range, nodes-in_range}
use Rattle.types.proofs.laws.Typing.{no_fault_typed}
use Rattle.columns.specs.HeldNodes.{held_node, held_nodes, held_type, held_types}
use Rattle.columns.specs.declared.NodeLinks.{NodeLinks}
use Rattle.columns.specs.declared.TypeColumns.{TypeColumns}
use Rattle.columns.proofs.laws.HeldAt.{node_held, type_held, nodes-counted}
use Rattle.columns.specs.laws.Within.{LinksFit}
use Rattle.normal_form.proofs.laws.NodeLanguages.{language_equation}
use Rattle.normal_form.proofs.laws.Places.{nodes-count}
use Rattle.normal_form.proofs.laws.TypesExact.{empty_word_exact, first_exact}
use Rattle.descent_table.specs.TableOf.{TableOf, up_at}
use Rattle.descent_table.specs.HoldsTyped.{HoldsTyped}
use Rattle.descent_table.specs.Filling.{UpColumn, RowOf}
use Rattle.descent_table.proofs.laws.Above.{parts_same}

-- For a sheet that was checked.
pub holds_typed : (s : Sheet) (links : NodeLinks) (types : TypeColumns) → WithinLimits s → links.count ≤ 64
    → held_nodes links ≡ nodes s.expression → held_types links.count types ≡ least_types s.expression
    → type_fault s.expression ≡ none → HoldsTyped links types s.expression
holds_typed s links types w most linked typed right = record {
  tokens = s.tokens;
  tokens_most = w.tokens_most;
  closed = w.closed;
  nodes_most = w.nodes_most;
  links_most = most;
  linked = linked;
  typed = typed;
  no_fault = right;
}

module _ (links : NodeLinks) (types : TypeColumns) (e : Expression) (h : HoldsTyped links types e) where
  pub counted : links.count ≡ size e
  counted = sym (nodes-counted links (nodes e) h.linked) ∙ nodes-count e

  pub derivation : [] ⊢ e ∶ type_of (least_types e) 0
  derivation = no_fault_typed h.tokens h.tokens_most e h.closed h.no_fault

  pub has_type : HasType e
  has_type = (type_of (least_types e) 0, derivation)

  node_here : (n : ℕ) → n < size e → held_node links.tag links.link links.guarded n ≡ node_at (nodes e) n
  node_here n l = node_held links (nodes e) h.linked n (omega (arith, counted))

  in_range : (n : ℕ) → NodeInRange most_tokens (size e) (node_at (nodes e) n)
  in_range n = in_range-more h.tokens most_tokens (size e) (size e) (node_at (nodes e) n) h.tokens_most (omega arith)
      (node_in_range h.tokens (size e) (nodes e) (nodes-in_range h.tokens e h.closed) n)

  pub links_fit : LinksFit links
  links_fit = record {
    count_fits = h.links_most;
    all_within = λ q l. subst (NodeInRange most_tokens links.count) (sym (node_here q (omega (arith, counted))))
        (subst (λ k. NodeInRange most_tokens k (node_at (nodes e) q)) (sym counted) (in_range q));
  }

  -- NULL and FIRST are exact.
  type_here : (n : ℕ) → n < size e → held_type types.null types.first types.flast n ≡ type_of (least_types e) n
  type_here n l = type_held links.count types (least_types e) h.typed n (omega (arith, counted))

  solved : Solves (nodes e) (least_types e)
  solved = least_solves h.tokens h.tokens_most e h.closed

  null_here : (n : ℕ) → n < size e → (bit types.null n ≡ true) ↔ language_of e n []
  unfolding held_type
  null_here n l = subst (λ (a : LanguageType). (a.null ≡ true) ↔ language_of e n []) (sym (type_here n l))
      (empty_word_exact e (language_equation derivation) solved n)

  first_here : (n t : ℕ) → n < size e → (bit (get_or types.first n 0) t ≡ true) ↔ Begins (language_of e n) t
  unfolding held_type
  first_here n t l = subst (λ (a : LanguageType). (bit a.first t ≡ true) ↔ Begins (language_of e n) t) (sym (type_here n l))
      (first_exact e (language_equation derivation) solved n t)

  first_few : (n : ℕ) → n < size e → get_or types.first n 0 < 2 ^ 64
  unfolding held_type
  first_few n l = subst (λ (a : LanguageType). a.first < 2 ^ 64) (sym (type_here n l))
      (omega (arith, first_small (least_fits h.tokens h.tokens_most e h.closed n)))

  flag_is : (b : Bool) → (◌≡◌ {A = ℕ} (cond b 1 0) 1) ↔ (b ≡ true)
  flag_is true = (λ x. refl, λ x. refl)
  flag_is false = (λ x. absurd (omega arith), λ x. let z : ◌≡◌ {A = ℕ} 0 1 = cc in absurd (omega arith))

  module _ (up table : List ℕ) (ups : UpColumn e up) (rows : (n : ℕ) → n < size e → RowOf links types up table n) where
    pub table_of : TableOf e table
    unfolding held_node
    table_of = record {
      nodes_most = h.nodes_most;
      nodes_held = λ n l. let r = rows n l in (bit links.guarded n, rw (r.tag, r.link) (node_here n l));
      null_held = λ n l. let r = (rows n l).null in
          let flag = flag_is (bit types.null n) in let exact = null_here n l in
          (λ x. exact.0 (flag.0 (sym r ∙ x)), λ x. r ∙ flag.1 (exact.1 x));
      first_held = λ n t l. subst (λ (set : ℕ). (bit set t ≡ true) ↔ Begins (language_of e n) t) (sym (rows n l).first) (first_here n t l);
      first_few = λ n l. subst (λ (set : ℕ). set < 2 ^ 64) (sym (rows n l).first) (first_few n l);
      up_below = λ n l. omega (arith, (rows n l).above, ups.below n l);
      up_parts = λ n l. parts_same most_tokens (size e) (up_at table) (λ k. get_or up k 0) (λ k i. (rows k i).above) n l
          (node_at (nodes e) n) (in_range n) (ups.parts n l);
    }
