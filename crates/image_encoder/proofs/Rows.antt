-- A node's row: how many productions it has, its productions rule by rule, and its numbers.
use mathlib.Core.Path.{◌≡◌, refl, sym, ap, ◌∙◌}
use mathlib.Core.Bool.{Bool}
use mathlib.Core.List.{List, [], ◌∷◌, ◌++◌, map}
use mathlib.Core.Option as maybe
use Rattle.std.specs.Prelude.{Option, Some, None}
use Prim.Native.Nat.{ℕ, suc, ◌+◌, ◌≤◌, ◌<◌}
use native.Mathlib.Numerals.{add-one}
use native.Mathlib.Omega.{arith}
use lib.ListN.{get_or, length, length-append, length-map}
use Rattle.basics.specs.Bits.{bit}
use Rattle.number.specs.Number.{encode}
use Rattle.sheet.specs.Expression.{Expression, size}
use Rattle.sheet.specs.Sheet.{Rule}
use Rattle.types.proofs.laws.LeastTypeLaws.{least_solves}
use Rattle.types.proofs.laws.Typing.{no_fault_typed}
use Rattle.normal_form.specs.Productions.{Production, row_of}
use Rattle.normal_form.specs.NormalForm.{normal_form}
use Rattle.normal_form.proofs.laws.ExactRows.{null_is_epsilon}
use Rattle.production_finder.specs.Columns.{tail_held}
use Rattle.production_finder.specs.declared.Tail.{Tail}
use Rattle.image.specs.Fusion.{fused_from, fused}
use Rattle.image.specs.Image.{flag, all_numbers, production_numbers}
use Rattle.image.specs.Numbering.{reached, renumbered}
use Rattle.node_numbering.specs.laws.Below.{concat_below}
use Rattle.node_numbering.specs.Grammar.{GrammarOf}
use Rattle.node_numbering.specs.laws.RuleTails.{rule_part}
use Rattle.node_numbering.proofs.laws.RuleTails.{rule_tail, fused-parts}
use Rattle.node_numbering.specs.declared.Grammar.{Grammar}
use Rattle.image_encoder.specs.laws.Emitted.{Emitted}
use Rattle.image_encoder.proofs.laws.Emitted.{emitted_append, emitted_same, emitted_over, one_byte}
use Rattle.image_encoder.specs.Parts.{mapped_row, production_part, productions_part, row_part, numbered_row_part, rows_part}
use Rattle.image_encoder.proofs.Writing.{one_more}

abbrev productions_of : Expression → ℕ → List Production
productions_of e node = (row_of (normal_form e) node).productions

-- ---- how many productions

-- One entry for each rule that has a production.
abbrev pub entries : List Rule → Expression → ℕ → ℕ → List ℕ
entries rules e node r = rule_part (λ p. 0 ∷ []) r (rule_tail rules (productions_of e node) r)

pub counted-none : (rules : List Rule) (e : Expression) (node : ℕ) → 0 ≡ length (concat_below (entries rules e node) 0)
unfolding concat_below
counted-none rules e node = refl

-- Where a rule has no production, nothing changes; where it has one, it is one more.
module _ (rules : List Rule) (e : Expression) (node r count : ℕ) (so_far : count ≡ length (concat_below (entries rules e node) r)) where
  rule_counted : length (concat_below (entries rules e node) (r + 1)) ≡ count + length (entries rules e node r)
  rule_counted = unfold concat_below in
      rw add-one (length-append (concat_below (entries rules e node) r) (entries rules e node r)
      ∙ ap (λ (k : ℕ). k + length (entries rules e node r)) (sym so_far))

  entry_counted : (t : Option Tail) → tail_held t ≡ rule_tail rules (productions_of e node) r
      → length (rule_part (λ p. 0 ∷ []) r (tail_held t)) ≡ length (entries rules e node r)
  entry_counted t found = ap (λ (o : maybe.Option (List ℕ)). length (rule_part (λ p. 0 ∷ []) r o)) found

  pub counted_same : tail_held None ≡ rule_tail rules (productions_of e node) r
      → count ≡ length (concat_below (entries rules e node) (r + 1))
  unfolding rule_part
  counted_same found = omega (arith, rule_counted, entry_counted None found)

  pub counted-more : (t : Tail) → tail_held (Some t) ≡ rule_tail rules (productions_of e node) r
      → count + 1 ≡ length (concat_below (entries rules e node) (r + 1))
  unfolding rule_part
  counted-more t found = omega (arith, rule_counted, entry_counted (Some t) found)

entries-length : (ps : List Production) → length (all_numbers (λ p. 0 ∷ []) ps) ≡ length ps
entries-length [] = refl
entries-length (p ∷ ps) = ap suc (entries-length ps)

pub counted-all : (g : Grammar) (rules : List Rule) (e : Expression) → GrammarOf g rules e → (node r count : ℕ) → r ≤ g.rules → g.rules ≤ r
    → count ≡ length (concat_below (entries rules e node) r) → count ≡ length (fused_from rules 0 (productions_of e node))
counted-all g rules e h node r count a b so_far =
    let same : r ≡ length rules = omega (arith, h.rule_count) in
    so_far ∙ ap (λ (k : ℕ). length (concat_below (entries rules e node) k)) same
    ∙ ap length (fused-parts (λ p. 0 ∷ []) (productions_of e node) rules) ∙ entries-length (fused_from rules 0 (productions_of e node))

-- ---- the productions

-- The numbers of a rule's production in a node's row.
abbrev pub rule_numbers : List ℕ → List Rule → Expression → ℕ → ℕ → List ℕ
rule_numbers all rules e node r = rule_part (λ p. production_numbers (renumbered all p)) r (rule_tail rules (productions_of e node) r)

pub production-more : {a b c : List ℕ} {at n m : ℕ} (all : List ℕ) (rules : List Rule) (e : Expression) (node r : ℕ) (t : Option Tail)
    → tail_held t ≡ rule_tail rules (productions_of e node) r → Emitted a b at n (concat_below (rule_numbers all rules e node) r)
    → Emitted b c n m (production_part all r t) → Emitted a c at m (concat_below (rule_numbers all rules e node) (r + 1))
production-more all rules e node r t found so_far one =
    one_more (rule_numbers all rules e node) r so_far (emitted_same (same ∙ ap (rule_part (λ p. production_numbers
    (renumbered all p)) r) found) one)
  where
    same : production_part all r t ≡ rule_part (λ p. production_numbers (renumbered all p)) r (tail_held t)
    same = unfold production_part in refl

pub productions_emitted : {a b : List ℕ} {at n : ℕ} (g : Grammar) (all : List ℕ) (rules : List Rule) (e : Expression) → GrammarOf g rules e
    → (node r : ℕ) → r ≤ g.rules → g.rules ≤ r → Emitted a b at n (concat_below (rule_numbers all rules e node) r)
    → Emitted a b at n (productions_part all rules e node)
unfolding productions_part
productions_emitted g all rules e h node r l m x =
    let same : r ≡ length rules = omega (arith, h.rule_count) in
    emitted_same (ap (concat_below (rule_numbers all rules e node)) same
    ∙ fused-parts (λ p. production_numbers (renumbered all p)) (productions_of e node) rules) x

-- ---- the row

-- The ε flag of a node is in the set of nullable nodes.
null_empty : (g : Grammar) (rules : List Rule) (e : Expression) → GrammarOf g rules e → (node : ℕ) → node < size e
    → bit g.null node ≡ (row_of (normal_form e) node).has_epsilon
null_empty g rules e h node inside =
    let k = h.columns in
    h.null_held node inside
    ∙ null_is_epsilon (no_fault_typed k.tokens k.tokens_most e k.closed k.no_fault) (least_solves k.tokens
    k.tokens_most e k.closed) node

map-numbers : {A B : Type 0} (f : B → List ℕ) (m : A → B) (l : List A) → all_numbers f (map m l) ≡ all_numbers (λ a. f (m a)) l
map-numbers f m [] = refl
map-numbers f m (a ∷ l) = ap (λ (k : List ℕ). f (m a) ++ k) (map-numbers f m l)

pub row_emitted : {a b c d f : List ℕ} {at v n m l : ℕ} (g : Grammar) (all : List ℕ) (rules : List Rule) (e : Expression) → GrammarOf g rules e
    → (node : ℕ) → node < size e → (null : Bool) (count : ℕ) → null ≡ bit g.null node → count ≡ length (fused_from rules 0
    (productions_of e node))
    → count ≤ 32 → Emitted a b at v (flag null ∷ []) → Emitted b c v n (0 ∷ []) → Emitted c d n m (productions_part all rules e node)
    → Emitted d f v l (count ∷ []) → Emitted a f at m (row_part all rules e node)
unfolding row_part mapped_row productions_part
row_emitted {a} {b} {c} {d} {f} {at} {v} {n} {m} {l} g all rules e h node inside null count is_null is_count few x y z w =
    let ps = fused_from rules 0 (productions_of e node) in
    let flags : flag null ∷ [] ≡ flag (row_of (normal_form e) node).has_epsilon ∷ [] = ap (λ (b : Bool). flag b ∷ []) (is_null
    ∙ null_empty g rules e h node inside) in
    let counts : count ≡ length (map (renumbered all) ps) = is_count ∙ sym (length-map ps (renumbered all)) in
    let width : length (encode 0) ≡ length (encode count) = one_byte 0 (omega arith) ∙ sym (one_byte count (omega arith)) in
    let numbers : all_numbers (λ p. production_numbers (renumbered all p)) ps ≡ all_numbers production_numbers (map (renumbered all) ps) =
    sym (map-numbers production_numbers (renumbered all) ps) in
    emitted_append (emitted_same flags x)
    (emitted_same (ap (λ (k : ℕ). k ∷ all_numbers production_numbers (map (renumbered all) ps)) counts)
    (emitted_over width y (emitted_same numbers z) w))

-- ---- all rows

pub row-more : {a b d : List ℕ} {at n m : ℕ} (all : List ℕ) (rules : List Rule) (e : Expression) (i node : ℕ) → node ≡ get_or all i 0
    → Emitted a b at n (concat_below (numbered_row_part all rules e) i) → Emitted b d n m (row_part all rules e node)
    → Emitted a d at m (concat_below (numbered_row_part all rules e) (i + 1))
row-more all rules e i node is so_far one =
    one_more (numbered_row_part all rules e) i so_far (emitted_same (ap (row_part all rules e) is) one)

pub rows_emitted : {a b c d : List ℕ} {at v n l : ℕ} (rules : List Rule) (e : Expression) (i : ℕ) → i ≤ 64
    → i ≡ length (reached (fused rules (normal_form e))) → Emitted a b at v (0 ∷ [])
    → Emitted b c v n (concat_below (numbered_row_part (reached (fused rules (normal_form e))) rules e) i)
    → Emitted c d at l (i ∷ []) → Emitted a d at n (rows_part rules e)
unfolding rows_part
rows_emitted rules e i few count x y z =
    let all = reached (fused rules (normal_form e)) in
    let width : length (encode 0) ≡ length (encode i) = one_byte 0 (omega arith) ∙ sym (one_byte i (omega arith)) in
    emitted_same (ap (λ (k : ℕ). k ∷ concat_below (numbered_row_part all rules e) k) count) (emitted_over width x y z)
