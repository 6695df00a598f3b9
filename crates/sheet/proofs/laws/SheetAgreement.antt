-- Reading a sheet as the code does it is reading the sheet's format: the items that are due are the regexes and expressions that the format
-- has still to make. What the questions are is not said here.
use Rattle.std.specs.Prelude.{◌≡◌, Bool, ◌&&◌, ◌||◌, cond, eqb, get_or, Option, Some, None}
use Rattle.std.proofs.Math.Path.{refl, sym, ap, ap₂}
use Rattle.std.proofs.Common.{◌∙◌, true≢false, length-append}
use Rattle.std.proofs.Math.Bool.{true, false, not}
use mathlib.Core.List.{List, [], ◌∷◌, ◌++◌, map, append_assoc, append-nil}
use Prim.Native.Nat.{ℕ, zero, suc, ◌+◌, ◌-◌, ◌≤◌, ◌<◌}
use native.Mathlib.Omega.{arith}
use Rattle.std.proofs.Math.Dec.{ltb}
use Rattle.std.proofs.Math.ListN.{length}
use borrow.Author.Tests.{lt-ltb, le-ltb, ltb-true, ltb-false, ne_eqb, eq-eqb}
use Rattle.basics.specs.Lists.{sum}
use Rattle.basics.proofs.laws.Truth.{and-true-second}
use Rattle.number.specs.Number.{decode}
use Rattle.number.specs.declared.Number.{Number}
use Rattle.sheet.specs.Limits.{most_tokens, most_rules, most_classes, most_regex_nodes, most_expression_nodes}
use Rattle.sheet.specs.Regex.{Regex, empty, class, concat, union, star}
use Rattle.sheet.specs.Expression.{Expression, epsilon, bottom, token, sequence, alternative, fixed_point, variable, repetition}
use Rattle.sheet.specs.Sheet.{Rule}
use Rattle.sheet.specs.Field.{Reading, stop, got, and_then, between, field_of, read_field, read_many}
use Rattle.sheet.proofs.laws.FieldLaws.{true-between}
use Rattle.sheet.specs.Items.{RegexItem, empty_item, concat_item, union_item, star_item, regex_parts, item_classes, regex_before, regexes}
use Rattle.sheet.specs.Items.{ExpressionItem, token_item, sequence_item, alternative_item, fixed_point_item, variable_item}
use Rattle.sheet.specs.Items.{repetition_item, part_depths, expression_before, expressions}
use Rattle.sheet.specs.Reading.{sheet_field, class_after, regex_item, regex_items, ReadRule, Allowance, less_rule, read_rule}
use Rattle.sheet.specs.Reading.{expression_item, expression_nodes}
use Rattle.sheet.specs.Reading.{Contents, contents, at_end, read_sheet}
use Rattle.sheet.specs.Format.{Format, done, field}
use Rattle.sheet.proofs.laws.FormatLaws.{judged, asked, read_part, read, then_same, then_then}
use Rattle.sheet.proofs.laws.FormatLaws as whole_reading
use Rattle.sheet.specs.SheetFormat.{judge, regex_format, rules_format, expression_format, sheet_format}
use Rattle.sheet.proofs.laws.AfterTags.{regex_limits, after_regex_tag, after_expression_tag}

module _ (bytes : List ℕ) where
  abbrev part : {X : Type 0} → Format X → ℕ → Reading X
  part f at = read_part (decode bytes) 3 f at

  -- A number: 3, then 4, then 5.
  number_same : {X : Type 0} (allowed kept : ℕ → Bool) (at : ℕ) {f g : ℕ → ℕ → Reading X}
      → ((v end : ℕ) → allowed v ≡ true → kept v ≡ true → f v end ≡ g v end)
      → ((v end : ℕ) → allowed v ≡ true → kept v ≡ false → stop 5 at ≡ g v end)
      → and_then (asked 3 (λ v. judge (allowed v) (kept v)) at (decode bytes at)) f ≡ and_then (sheet_field allowed bytes at) g
  unfolding sheet_field read_field field_of
  number_same allowed kept at {f} {g} same five = by_number (decode bytes at)
    where
      by_tests : (v next : ℕ) (a k : Bool) → allowed v ≡ a → kept v ≡ k
          → and_then (judged (judge a k) v at next) f ≡ and_then (cond a (got v next) (stop 4 at)) g
      by_tests v next true true ea ek = same v next ea ek
      by_tests v next true false ea ek = five v next ea ek
      by_tests v next false k ea ek = refl

      by_number : (n : Option Number) → and_then (asked 3 (λ v. judge (allowed v) (kept v)) at n) f ≡ and_then (field_of 3 4 allowed at n) g
      by_number None = refl
      by_number (Some n) = by_tests n.value (at + n.used) (allowed n.value) (kept n.value) refl refl

  -- A number that is no tag.
  value_same : {X : Type 0} (allowed : ℕ → Bool) (at : ℕ) {f g : ℕ → ℕ → Reading X} → ((v end : ℕ) → allowed v ≡ true → f v end ≡ g v end)
      → and_then (asked 3 (λ v. judge (allowed v) true) at (decode bytes at)) f ≡ and_then (sheet_field allowed bytes at) g
  value_same allowed at same = number_same allowed (λ v. true) at (λ v end a k. same v end a) (λ v end a k. absurd (true≢false k))

  -- A tag where no node is left: 3, 4 or 5.
  none_left : {A X : Type 0} (most : ℕ) (kept : ℕ → Bool) (at : ℕ) (f : ℕ → ℕ → Reading X) (k : A → ℕ → Reading X) → ((tag : ℕ) → kept tag ≡ false)
      → and_then (asked 3 (λ tag. judge (between 0 most tag) (kept tag)) at (decode bytes at)) f
      ≡ and_then (and_then (sheet_field (between 0 most) bytes at) (λ tag next. stop 5 at)) k
  none_left most kept at f k none =
      number_same (between 0 most) kept at (λ v end a e. absurd (true≢false (sym e ∙ none v))) (λ v end a e. refl)
      ∙ sym (then_then (sheet_field (between 0 most) bytes at) _ k)

  -- ---- regexes

  -- Reading so many regexes by their items, after so many nodes and classes, and going on with the regexes.
  abbrev by_items : {X : Type 0} → ℕ → ℕ → ℕ → ℕ → ℕ → ℕ → (List Regex → ℕ → ℕ → ℕ → Reading X) → Reading X
  by_items left classes n c due at go =
      and_then (regex_items bytes left classes due at) (λ items end. go (regexes items) (n + length items) (c + sum item_classes items) end)

  items_none : {X : Type 0} (left classes n c at : ℕ) (go : List Regex → ℕ → ℕ → ℕ → Reading X)
      → go [] n c at ≡ by_items left classes n c 0 at go
  unfolding regex_items regexes
  items_none zero classes n c at go = ap₂ (λ (n c : ℕ). go [] n c at) (omega arith) (omega arith)
  items_none (suc left) classes n c at go = ap₂ (λ (n c : ℕ). go [] n c at) (omega arith) (omega arith)

  -- One item further.
  items_step : {X : Type 0} (left classes due n c at : ℕ) (go : List Regex → ℕ → ℕ → ℕ → Reading X)
      → by_items (suc left) classes n c (suc due) at go
      ≡ and_then (sheet_field (between 0 4) bytes at) (λ tag next. and_then (regex_item bytes classes at tag next)
      (λ item mid. by_items left (classes - item_classes item) (n + 1) (c + item_classes item) (regex_parts item + due) mid
      (λ rs. go (regex_before item rs))))
  unfolding regex_items regexes
  items_step left classes due n c at go =
      then_then (sheet_field (between 0 4) bytes at) _ _
      ∙ then_same (sheet_field (between 0 4) bytes at) (λ tag next. then_then (regex_item bytes classes at tag next) _ _
      ∙ then_same (regex_item bytes classes at tag next)
      (λ item mid. then_then (regex_items bytes left (classes - item_classes item) (regex_parts item + due) mid) _ _
      ∙ then_same (regex_items bytes left (classes - item_classes item) (regex_parts item + due) mid)
      (λ items end. ap₂ (λ (n c : ℕ). go (regex_before item (regexes items)) n c end)
      (omega arith) (omega arith))))

  -- What the limits leave.
  abbrev Leaves : ℕ → ℕ → ℕ → ℕ → Type 0
  Leaves n c left classes = (left ≡ most_regex_nodes - n) × (classes ≡ most_classes - c)

  -- After a regex, from where so many nodes came before, the format goes on as the items of the regexes due do.
  abbrev GoesOn : {X : Type 0} → ℕ → ℕ → (Regex → ℕ → ℕ → Format X) → (List Regex → ℕ → ℕ → ℕ → Reading X) → Type 0
  GoesOn before due next go = (r : Regex) (n c left classes many at : ℕ) → before ≤ n → Leaves n c left classes → many ≡ due
      → part (next r n c) at ≡ by_items left classes n c many at (λ rs. go (r ∷ rs))

  -- At a depth, every regex agrees.
  abbrev RegexAgrees : Type 0 → ℕ → Type 0
  RegexAgrees X depth = (due n c left classes many at : ℕ) (next : Regex → ℕ → ℕ → Format X)
      (go : List Regex → ℕ → ℕ → ℕ → Reading X) → most_regex_nodes ≤ depth + n → Leaves n c left classes → many ≡ suc due
      → GoesOn n due next go → part (regex_format depth n c next) at ≡ by_items left classes n c many at go

  -- After a tag, where a node is left.
  module _ {X : Type 0} (depth : ℕ) (rec : RegexAgrees X depth) (due n c left classes at : ℕ) (next : Regex → ℕ → ℕ → Format X)
      (go : List Regex → ℕ → ℕ → ℕ → Reading X) (d : most_regex_nodes ≤ suc depth + n) (h : Leaves n c (suc left) classes)
      (on : GoesOn n due next go) where
    abbrev then_items : RegexItem → ℕ → Reading X
    then_items item mid =
        by_items left (classes - item_classes item) (n + 1) (c + item_classes item) (regex_parts item + due) mid
        (λ rs. go (regex_before item rs))

    -- An item that is no class leaves their count.
    uncounted : (item : RegexItem) (mid : ℕ) → item_classes item ≡ 0
        → by_items left (classes - item_classes item) (n + 1) c (regex_parts item + due) mid (λ rs. go (regex_before item rs)) ≡ then_items item mid
    uncounted item mid none = let same : c + item_classes item ≡ c = omega arith in rw same

    module _ (item : RegexItem) (make : Regex → Regex → Regex) (none : item_classes item ≡ 0) (parts : regex_parts item ≡ 2)
        (before : (r s : Regex) (rs : List Regex) → regex_before item (r ∷ s ∷ rs) ≡ make r s ∷ rs) where
      two_agree : (mid : ℕ) → part (regex_format depth (n + 1) c (λ r x y. regex_format depth x y (λ s. next (make r s)))) mid
          ≡ then_items item mid
      two_agree mid =
          rec (suc due) (n + 1) c _ _ _ mid _ (λ rs. go (regex_before item rs)) (omega arith) (omega arith, omega arith) (omega arith)
          (λ r a b l k many p e x m. rec due a b l k many p _ (λ rs. go (regex_before item (r ∷ rs))) (omega arith) x m
          (λ s u v i j more q f y o. on (make r s) u v i j more q (omega arith) y o
          ∙ then_same (regex_items bytes i j more q) (λ items end.
          ap (λ (l : List Regex). go l (u + length items) (v + sum item_classes items) end) (sym (before r s (regexes items))))))
          ∙ uncounted item mid none

    class_agrees : (mid : ℕ) → regex_limits n c 1 ≡ true
        → part (field 4 (between 0 255) (λ low. field 4 (between low 255) (λ high. next (class low high) (n + 1) (c + 1)))) mid
        ≡ and_then (class_after bytes classes at mid) then_items
    unfolding field class_after item_classes regex_parts regex_before
    class_agrees mid k =
        let some : c < most_classes = ltb-true c most_classes (and-true-second (ltb n most_regex_nodes) (ltb c most_classes) k) in
        rw (ne_eqb classes 0 (λ e. omega arith))
        (value_same (between 0 255) mid (λ low m a. value_same (between low 255) m (λ high end e.
        on (class low high) (n + 1) (c + 1) _ _ _ end (omega arith) (omega arith, omega arith) (omega arith))
        ∙ sym (then_then (sheet_field (between low 255) bytes m) _ then_items))
        ∙ sym (then_then (sheet_field (between 0 255) bytes mid) _ then_items))

    item_agrees : (tag mid : ℕ) → between 0 4 tag ≡ true → regex_limits n c tag ≡ true
        → part (after_regex_tag depth n c next tag) mid ≡ and_then (regex_item bytes classes at tag mid) then_items
    unfolding regex_item regex_parts item_classes regex_before
    item_agrees zero mid a k = on empty (n + 1) c _ _ _ mid (omega arith) (omega arith, omega arith) (omega arith) ∙ uncounted empty_item mid refl
    item_agrees (suc zero) mid a k = class_agrees mid k
    item_agrees (suc (suc zero)) mid a k = two_agree concat_item concat refl refl (λ r s rs. refl) mid
    item_agrees (suc (suc (suc zero))) mid a k = two_agree union_item union refl refl (λ r s rs. refl) mid
    item_agrees (suc (suc (suc (suc zero)))) mid a k =
        rec due (n + 1) c _ _ _ mid _ (λ rs. go (regex_before star_item rs)) (omega arith) (omega arith, omega arith) (omega arith)
        (λ r a b l k many p e x m. on (star r) a b l k many p (omega arith) x m)
        ∙ uncounted star_item mid refl
    item_agrees (suc (suc (suc (suc (suc tag))))) mid a k =
        absurd (omega (arith, (true-between 0 4 (suc (suc (suc (suc (suc tag))))) a).1))

    -- A tag that breaks a limit, where a node is left, is a class's.
    item_stops : (tag mid : ℕ) → regex_limits n c tag ≡ false → stop 5 at ≡ and_then (regex_item bytes classes at tag mid) then_items
    unfolding regex_item class_after
    item_stops tag mid e = by_tag tag (sym (ap (λ (t : Bool). t && (not (eqb tag 1) || ltb c most_classes))
        (lt-ltb n most_regex_nodes (omega arith))) ∙ e)
      where
        by_tag : (tag : ℕ) → (not (eqb tag 1) || ltb c most_classes) ≡ false
            → stop 5 at ≡ and_then (regex_item bytes classes at tag mid) then_items
        by_tag zero e = absurd (true≢false e)
        by_tag (suc zero) e = rw (eq-eqb classes 0 (omega (arith, ltb-false c most_classes e)))
        by_tag (suc (suc tag)) e =
            absurd (true≢false (sym (ap (λ (t : Bool). not t || ltb c most_classes) (ne_eqb (suc (suc tag)) 1 (omega arith))) ∙ e))

  no_depth : {X : Type 0} → RegexAgrees X 0
  unfolding regex_format regex_items
  no_depth due n c left classes zero at next go d h m on = absurd (omega arith)
  no_depth due n c zero classes (suc many) at next go d h m on = none_left 4 (λ tag. false) at _ _ (λ tag. refl)
  no_depth due n c (suc left) classes (suc many) at next go d h m on = absurd (omega arith)

  one_deeper : {X : Type 0} (depth : ℕ) → RegexAgrees X depth → RegexAgrees X (suc depth)
  unfolding regex_format regex_items
  one_deeper depth rec due n c left classes zero at next go d h m on = absurd (omega arith)
  one_deeper depth rec due n c zero classes (suc many) at next go d h m on =
      none_left 4 (regex_limits n c) at _ _
      (λ v. ap (λ (t : Bool). t && (not (eqb v 1) || ltb c most_classes)) (le-ltb n most_regex_nodes (omega arith)))
  one_deeper depth rec due n c (suc left) classes (suc many) at next go d h m on =
      number_same (between 0 4) (regex_limits n c) at
      (item_agrees depth rec many n c left classes at next go d h after)
      (λ v end a. item_stops depth rec many n c left classes at next go d h after v end)
      ∙ sym (items_step left classes many n c at go)
    where
      after : GoesOn n many next go
      after r a b l k more p e x i = on r a b l k more p e x (omega arith)

  regex_agrees : {X : Type 0} (depth : ℕ) → RegexAgrees X depth
  regex_agrees zero = no_depth
  regex_agrees (suc depth) = one_deeper depth (regex_agrees depth)

-- ---- expressions

module _ (bytes : List ℕ) (tokens : ℕ) where
  -- Reading expressions by their nodes, one for each number of open fixed points, and going on with the expressions and the places of tags.
  abbrev by_nodes : {X : Type 0} → ℕ → List ℕ → List ℕ → ℕ → (List Expression → List ℕ → ℕ → Reading X) → Reading X
  by_nodes left places due at go =
      and_then (expression_nodes bytes tokens left due at) (λ nodes end.
      go (expressions (map (λ n. n.item) nodes)) (places ++ map (λ n. n.place) nodes) end)

  nodes_none : {X : Type 0} (left : ℕ) (places : List ℕ) (at : ℕ) (go : List Expression → List ℕ → ℕ → Reading X)
      → go [] places at ≡ by_nodes left places [] at go
  unfolding expression_nodes expressions
  nodes_none zero places at go = ap (λ (l : List ℕ). go [] l at) (sym (append-nil places))
  nodes_none (suc left) places at go = ap (λ (l : List ℕ). go [] l at) (sym (append-nil places))

  -- One node further.
  nodes_step : {X : Type 0} (left opened : ℕ) (due places : List ℕ) (at : ℕ) (go : List Expression → List ℕ → ℕ → Reading X)
      → by_nodes (suc left) places (opened ∷ due) at go
      ≡ and_then (sheet_field (between 0 7) bytes at) (λ tag next. and_then (expression_item bytes tokens opened at tag next)
      (λ item mid. by_nodes left (places ++ (at ∷ [])) (part_depths item opened ++ due) mid (λ gs. go (expression_before item gs))))
  unfolding expression_nodes expressions
  nodes_step left opened due places at go =
      then_then (sheet_field (between 0 7) bytes at) _ _
      ∙ then_same (sheet_field (between 0 7) bytes at) (λ tag next. then_then (expression_item bytes tokens opened at tag next) _ _
      ∙ then_same (expression_item bytes tokens opened at tag next)
      (λ item mid. then_then (expression_nodes bytes tokens left (part_depths item opened ++ due) mid) _ _
      ∙ then_same (expression_nodes bytes tokens left (part_depths item opened ++ due) mid)
      (λ nodes end. ap (λ (l : List ℕ). go (expression_before item (expressions (map (λ n. n.item) nodes))) l end)
      (sym (append_assoc places (at ∷ []) (map (λ n. n.place) nodes))))))

  -- After an expression the format goes on as the nodes of the expressions due do.
  abbrev ThenNodes : {X : Type 0} → List ℕ → List ℕ → (Expression → List ℕ → Format X) → (List Expression → List ℕ → ℕ → Reading X) → Type 0
  ThenNodes places due next go = (g : Expression) (tags : List ℕ) (left at : ℕ) → length places ≤ length tags
      → left ≡ most_expression_nodes - length tags
      → part bytes (next g tags) at ≡ by_nodes left tags due at (λ gs. go (g ∷ gs))

  abbrev ExpressionAgrees : Type 0 → ℕ → Type 0
  ExpressionAgrees X depth = (opened : ℕ) (due places : List ℕ) (left at : ℕ) (next : Expression → List ℕ → Format X)
      (go : List Expression → List ℕ → ℕ → Reading X) → most_expression_nodes ≤ depth + length places → left ≡ most_expression_nodes - length places
      → ThenNodes places due next go → part bytes (expression_format depth tokens opened places next) at ≡ by_nodes left places (opened ∷ due) at go

  -- After a tag, where a node is left.
  module _ {X : Type 0} (depth : ℕ) (rec : ExpressionAgrees X depth) (opened : ℕ) (due places : List ℕ) (left at : ℕ)
      (next : Expression → List ℕ → Format X) (go : List Expression → List ℕ → ℕ → Reading X)
      (d : most_expression_nodes ≤ suc depth + length places) (h : suc left ≡ most_expression_nodes - length places)
      (on : ThenNodes places due next go) where
    abbrev tags : List ℕ
    tags = places ++ (at ∷ [])

    abbrev then_nodes : ExpressionItem → ℕ → Reading X
    then_nodes item mid = by_nodes left tags (part_depths item opened ++ due) mid (λ gs. go (expression_before item gs))

    more : length tags ≡ suc (length places)
    more = omega (arith, length-append places (at ∷ []))

    leaf : (g : Expression) (mid : ℕ) → part bytes (next g tags) mid ≡ by_nodes left tags due mid (λ gs. go (g ∷ gs))
    leaf g mid = on g tags left mid (omega (arith, more)) (omega (arith, more))

    -- A tag with a number after it.
    numbered : (bound : ℕ) (make : ℕ → Expression) (item : ℕ → ExpressionItem) (mid : ℕ)
        → ((k end : ℕ) → then_nodes (item k) end ≡ by_nodes left tags due end (λ gs. go (make k ∷ gs)))
        → part bytes (field 4 (λ k. ltb k bound) (λ k. next (make k) tags)) mid
        ≡ and_then (and_then (sheet_field (λ k. ltb k bound) bytes mid) (λ k end. got (item k) end)) then_nodes
    unfolding field
    numbered bound make item mid e =
        value_same bytes (λ k. ltb k bound) mid (λ k end a. leaf (make k) end ∙ sym (e k end))
        ∙ sym (then_then (sheet_field (λ k. ltb k bound) bytes mid) _ then_nodes)

    -- A tag with two parts.
    module _ (item : ExpressionItem) (make : Expression → Expression → Expression) (parts : part_depths item opened ≡ opened ∷ opened ∷ [])
        (before : (f g : Expression) (gs : List Expression) → expression_before item (f ∷ g ∷ gs) ≡ make f g ∷ gs) where
      pair : (mid : ℕ)
          → part bytes (expression_format depth tokens opened tags (λ g p. expression_format depth tokens opened p (λ h. next (make g h)))) mid
          ≡ then_nodes item mid
      pair mid =
          rw parts (rec opened (opened ∷ due) tags left mid _ (λ gs. go (expression_before item gs)) (omega (arith, more)) (omega (arith, more))
          (λ f p l i e x. rec opened due p l i _ (λ gs. go (expression_before item (f ∷ gs))) (omega (arith, more)) x
          (λ g q m j r y. on (make f g) q m j (omega (arith, more)) y
          ∙ then_same (expression_nodes bytes tokens m due j) (λ nodes end.
          ap (λ (gs : List Expression). go gs (q ++ map (λ n. n.place) nodes) end) (sym (before f g (expressions (map (λ n. n.item) nodes))))))))

    -- And with one.
    single : (item : ExpressionItem) (inside : ℕ) (make : Expression → Expression) (mid : ℕ) → part_depths item opened ≡ inside ∷ []
        → ((g : Expression) (gs : List Expression) → expression_before item (g ∷ gs) ≡ make g ∷ gs)
        → part bytes (expression_format depth tokens inside tags (λ g. next (make g))) mid ≡ then_nodes item mid
    single item inside make mid parts before =
        rw parts (rec inside due tags left mid _ (λ gs. go (expression_before item gs)) (omega (arith, more)) (omega (arith, more))
        (λ g p l i e x. on (make g) p l i (omega (arith, more)) x
        ∙ then_same (expression_nodes bytes tokens l due i) (λ nodes end.
        ap (λ (gs : List Expression). go gs (p ++ map (λ n. n.place) nodes) end) (sym (before g (expressions (map (λ n. n.item) nodes)))))))

    node_agrees : (tag mid : ℕ) → between 0 7 tag ≡ true
        → part bytes (after_expression_tag depth tokens opened tags next tag) mid
        ≡ and_then (expression_item bytes tokens opened at tag mid) then_nodes
    unfolding expression_item part_depths expression_before
    node_agrees zero mid a = leaf epsilon mid
    node_agrees (suc zero) mid a = leaf bottom mid
    node_agrees (suc (suc zero)) mid a = numbered tokens token token_item mid (λ k end. refl)
    node_agrees (suc (suc (suc zero))) mid a = pair sequence_item sequence refl (λ f g gs. refl) mid
    node_agrees (suc (suc (suc (suc zero)))) mid a = pair alternative_item alternative refl (λ f g gs. refl) mid
    node_agrees (suc (suc (suc (suc (suc zero))))) mid a = single fixed_point_item (suc opened) fixed_point mid refl (λ g gs. refl)
    node_agrees (suc (suc (suc (suc (suc (suc zero)))))) mid a = numbered opened variable variable_item mid (λ k end. refl)
    node_agrees (suc (suc (suc (suc (suc (suc (suc zero))))))) mid a = single repetition_item opened repetition mid refl (λ g gs. refl)
    node_agrees (suc (suc (suc (suc (suc (suc (suc (suc tag)))))))) mid a =
        absurd (omega (arith, (true-between 0 7 (suc (suc (suc (suc (suc (suc (suc (suc tag)))))))) a).1))

  first_node : {X : Type 0} → ExpressionAgrees X 0
  unfolding expression_format expression_nodes
  first_node opened due places zero at next go d h on = none_left bytes 7 (λ tag. false) at _ _ (λ tag. refl)
  first_node opened due places (suc left) at next go d h on = absurd (omega arith)

  next_node : {X : Type 0} (depth : ℕ) → ExpressionAgrees X depth → ExpressionAgrees X (suc depth)
  unfolding expression_format expression_nodes
  next_node depth rec opened due places zero at next go d h on =
      none_left bytes 7 (λ tag. ltb (length places) most_expression_nodes) at _ _
      (λ tag. le-ltb (length places) most_expression_nodes (omega arith))
  next_node depth rec opened due places (suc left) at next go d h on =
      number_same bytes (between 0 7) (λ tag. ltb (length places) most_expression_nodes) at
      (λ tag end a k. node_agrees depth rec opened due places left at next go d h on tag end a)
      (λ tag end a k. let z = ltb-false (length places) most_expression_nodes k in absurd (omega arith))
      ∙ sym (nodes_step left opened due places at go)

  expression_agrees : {X : Type 0} (depth : ℕ) → ExpressionAgrees X depth
  expression_agrees zero = first_node
  expression_agrees (suc depth) = next_node depth (expression_agrees depth)

-- ---- rules, and the sheet

module _ (bytes : List ℕ) where
  abbrev rule_of : ReadRule → Rule
  rule_of r = record { action = r.action; regex = get_or (regexes r.items) 0 empty }

  abbrev RulesAgree : Type 0 → ℕ → ℕ → Type 0
  RulesAgree X tokens count = (n c left classes at : ℕ) (next : List Rule → List ℕ → Format X) → Leaves bytes n c left classes
      → part bytes (rules_format tokens count n c next) at
      ≡ and_then (read_many (read_rule bytes tokens) less_rule (record { nodes = left; classes = classes }) count at)
      (λ rules end. part bytes (next (map rule_of rules) (map (λ r. r.place) rules)) end)

  module _ {X : Type 0} (tokens count : ℕ) (rec : RulesAgree X tokens count) (n c left classes at : ℕ) (next : List Rule → List ℕ → Format X)
      (h : Leaves bytes n c left classes) where
    abbrev allowed : Allowance
    allowed = record { nodes = left; classes = classes }

    abbrev this_rule : ℕ → List RegexItem → ReadRule
    this_rule action items = record { place = at; action = action; items = items }

    abbrev rest : ℕ → Regex → ℕ → ℕ → Format X
    rest action r x y = rules_format tokens count x y (λ rs places. next (record { action = action; regex = r } ∷ rs) (at ∷ places))

    one_regex : (action mid : ℕ) → part bytes (regex_format most_regex_nodes n c (rest action)) mid
        ≡ and_then (regex_items bytes left classes 1 mid) (λ items end.
        and_then (read_many (read_rule bytes tokens) less_rule (less_rule allowed (this_rule action items)) count end)
        (λ rules last. part bytes (next (map rule_of (this_rule action items ∷ rules)) (at ∷ map (λ r. r.place) rules)) last))
    unfolding less_rule
    one_regex action mid =
        regex_agrees bytes most_regex_nodes 0 n c left classes 1 mid (rest action) (λ rs x y end. part bytes (rest action (get_or rs 0 empty) x y) end)
        (omega arith) h refl (λ r a b l k many p e x m. rw m (items_none bytes l k a b p (λ rs u v end. part bytes (rest action r u v) end)))
        ∙ then_same (regex_items bytes left classes 1 mid) (λ items end.
        rec (n + length items) (c + sum item_classes items) (left - length items) (classes - sum item_classes items) end _ (omega arith, omega arith))

    one_rule : part bytes (rules_format tokens (suc count) n c next) at
        ≡ and_then (read_many (read_rule bytes tokens) less_rule allowed (suc count) at)
        (λ rules end. part bytes (next (map rule_of rules) (map (λ r. r.place) rules)) end)
    unfolding rules_format read_many read_rule
    one_rule =
        value_same bytes (between 0 tokens) at (λ action mid e. one_regex action mid)
        ∙ sym (then_then (read_rule bytes tokens allowed at) _ _ ∙ then_then (sheet_field (between 0 tokens) bytes at) _ _
        ∙ then_same (sheet_field (between 0 tokens) bytes at) (λ action mid. then_then (regex_items bytes left classes 1 mid) _ _
        ∙ then_same (regex_items bytes left classes 1 mid) (λ items end.
        then_then (read_many (read_rule bytes tokens) less_rule (less_rule allowed (this_rule action items)) count end) _ _)))

  rules_agree : {X : Type 0} (tokens count : ℕ) → RulesAgree X tokens count
  unfolding rules_format read_many
  rules_agree tokens zero n c left classes at next h = refl
  rules_agree tokens (suc count) n c left classes at next h = one_rule tokens count (rules_agree tokens count) n c left classes at next h

  abbrev made_of : ℕ → List ReadRule → List Expression → List ℕ → Contents
  made_of tokens rules gs places = record {
    sheet = record { tokens = tokens; rules = map rule_of rules; expression = get_or gs 0 bottom };
    action_places = map (λ r. r.place) rules;
    node_places = places;
  }

  expression_part : (tokens : ℕ) (rules : List ReadRule) (at : ℕ)
      → part bytes (expression_format most_expression_nodes tokens 0 [] (λ g places. done (made_of tokens rules (g ∷ []) places))) at
      ≡ and_then (expression_nodes bytes tokens most_expression_nodes (0 ∷ []) at) (λ nodes end. got (contents tokens rules nodes) end)
  unfolding contents
  expression_part tokens rules at =
      expression_agrees bytes tokens most_expression_nodes 0 [] [] most_expression_nodes at _
      (λ gs places end. got (made_of tokens rules gs places) end) (omega arith) refl
      (λ g tags left p e x. nodes_none bytes tokens left tags p (λ gs places end. got (made_of tokens rules (g ∷ gs) places) end))

  -- The sheet's format is read as the code reads a sheet.
  pub sheet_agrees : read (decode bytes) (length bytes) 3 6 sheet_format 0 ≡ read_sheet bytes
  unfolding field sheet_format read_sheet at_end
  sheet_agrees =
      ap (λ (r : Reading Contents). and_then r (whole_reading.at_end (length bytes) 6))
      (value_same bytes (between 1 1) 0 (λ version p a. value_same bytes (between 1 most_tokens) p (λ tokens q b.
      value_same bytes (between 1 most_rules) q
      (λ count r c. rules_agree tokens count 0 0 most_regex_nodes most_classes r _ (refl, refl)
      ∙ then_same (read_many (read_rule bytes tokens) less_rule _ count r) (λ rules e. expression_part tokens rules e)))))
      ∙ then_then (sheet_field (between 1 1) bytes 0) _ _ ∙ then_same (sheet_field (between 1 1) bytes 0)
      (λ version p. then_then (sheet_field (between 1 most_tokens) bytes p) _ _ ∙ then_same (sheet_field (between 1 most_tokens) bytes p)
      (λ tokens q. then_then (sheet_field (between 1 most_rules) bytes q) _ _ ∙ then_same (sheet_field (between 1 most_rules) bytes q)
      (λ count r. then_then (read_many (read_rule bytes tokens) less_rule _ count r) _ _
      ∙ then_same (read_many (read_rule bytes tokens) less_rule _ count r)
      (λ rules e. then_then (expression_nodes bytes tokens most_expression_nodes (0 ∷ []) e) _ _))))
