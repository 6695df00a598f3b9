-- The items that are read make as many regexes or expressions as were due, which have just these items. Which items a sheet may have is not
-- said here.
use Rattle.std.specs.Prelude.{◌≡◌, length}
use Rattle.std.proofs.Math.Path.{refl}
use mathlib.Core.List.{List, [], ◌∷◌, ◌++◌, map, flat_map}
use Prim.Native.Nat.{ℕ, zero, suc, ◌+◌, ◌-◌, ◌≤◌}
use native.Mathlib.Omega.{arith}
use Rattle.sheet.specs.Field.{Reading, stop, got, between}
use Rattle.sheet.proofs.laws.FieldLaws.{Outcome, refused, accepted, then_outcome, outcome_got}
use Rattle.sheet.specs.Items.{RegexItem, regex_parts, item_classes, regexes, part_depths, expressions}
use Rattle.sheet.specs.Reading.{sheet_field, regex_item, regex_items, ReadNode, expression_item, expression_nodes}
use Rattle.sheet.proofs.laws.RegexItems.{MadeRegexes, item_made}
use Rattle.sheet.proofs.laws.ExpressionItems.{MadeExpressions, expression_item-made}

abbrev Any : ℕ → ℕ → Type 0
Any question place = Unit

any : {A : Type 0} (r : Reading A) → Outcome Any (λ a end. Unit) r
any (stop question place) = refused question place tt
any (got a end) = accepted a end tt

module _ (bytes : List ℕ) where
  regexes_outcome : (left classes due at : ℕ) → Outcome Any (λ items end. MadeRegexes due items (regexes items)) (regex_items bytes left classes due at)
  unfolding regex_items regexes flat_map
  regexes_outcome zero classes zero at = accepted [] at (record { many = refl; same_items = refl })
  regexes_outcome zero classes (suc due) at = then_outcome (any (sheet_field (between 0 4) bytes at)) (λ tag next u. refused 5 at tt)
  regexes_outcome (suc left) classes zero at = accepted [] at (record { many = refl; same_items = refl })
  regexes_outcome (suc left) classes (suc due) at =
      then_outcome (any (sheet_field (between 0 4) bytes at)) (λ tag next u. then_outcome (any (regex_item bytes classes at tag next))
      (λ item mid v. then_outcome (regexes_outcome left (classes - item_classes item) (regex_parts item + due) mid)
      (λ items end m. accepted (item ∷ items) end (item_made item due items (regexes items) m))))

  pub regexes-read : (left classes due at : ℕ) {items : List RegexItem} {end : ℕ} → regex_items bytes left classes due at ≡ got items end
      → MadeRegexes due items (regexes items)
  regexes-read left classes due at e = outcome_got (regexes_outcome left classes due at) e

  -- What nodes that were read are.
  pub record NodesRead (left : ℕ) (due : List ℕ) (nodes : List ReadNode) : Type 0 where
    pub made : MadeExpressions (length due) (map (λ n. n.item) nodes) (expressions (map (λ n. n.item) nodes))
    pub nodes_most : length nodes ≤ left

  nodes_outcome : (tokens left : ℕ) (due : List ℕ) (at : ℕ)
      → Outcome Any (λ nodes end. NodesRead left due nodes) (expression_nodes bytes tokens left due at)
  unfolding expression_nodes expressions flat_map
  nodes_outcome tokens zero [] at = accepted [] at (record { made = record { many = refl; same_items = refl }; nodes_most = omega arith })
  nodes_outcome tokens zero (opened ∷ due) at =
      then_outcome (any (sheet_field (between 0 7) bytes at)) (λ tag next u. refused 5 at tt)
  nodes_outcome tokens (suc left) [] at = accepted [] at (record { made = record { many = refl; same_items = refl }; nodes_most = omega arith })
  nodes_outcome tokens (suc left) (opened ∷ due) at =
      then_outcome (any (sheet_field (between 0 7) bytes at))
      (λ tag next u. then_outcome (any (expression_item bytes tokens opened at tag next))
      (λ item mid v. then_outcome (nodes_outcome tokens left (part_depths item opened ++ due) mid)
      (λ nodes end m. accepted (record { place = at; item = item } ∷ nodes) end (record {
        made = expression_item-made item opened due (map (λ n. n.item) nodes) (expressions (map (λ n. n.item) nodes)) m.made;
        nodes_most = omega (arith, m.nodes_most);
      }))))

  pub nodes-read : (tokens left : ℕ) (due : List ℕ) (at : ℕ) {nodes : List ReadNode} {end : ℕ}
      → expression_nodes bytes tokens left due at ≡ got nodes end → NodesRead left due nodes
  nodes-read tokens left due at e = outcome_got (nodes_outcome tokens left due at) e
