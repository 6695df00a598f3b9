-- The rows one after the other: the members of one row, rule by rule, and the rows of the nodes met, until none is left.
use mathlib.Core.Path.{◌≡◌, refl, sym, ap, subst, ◌∙◌}
use mathlib.Core.List.{List, [], ◌∷◌, ◌++◌}
use Rattle.std.specs.Prelude.{Option}
use Prim.Native.Nat.{ℕ, suc, ◌+◌, ◌-◌, ◌≤◌, ◌<◌}
use native.Mathlib.Omega.{arith}
use native.Mathlib.Numerals.{add-one}
use lib.ListN.{get_or, length, length-append, get_or-append}
use lib.Seq.{get_or-take}
use Rattle.sheet.specs.Expression.{Expression, size}
use Rattle.sheet.specs.Sheet.{Rule}
use Rattle.normal_form.specs.Productions.{Production, Row, row_of}
use Rattle.normal_form.specs.NormalForm.{normal_form}
use Rattle.production_finder.specs.Columns.{tail_held}
use Rattle.production_finder.specs.declared.Tail.{Tail}
use Rattle.image.specs.Fusion.{fused_from, fused}
use Rattle.image.specs.laws.FusionLaws.{fused_row}
use Rattle.basics.specs.Lists.{All}
use Rattle.basics.proofs.laws.MeetingLaws.{first_met, meet_all_order}
use Rattle.basics.proofs.laws.Reaching.{rows-more, row_done, rows_done}
use Rattle.basics.specs.Meeting.{meet_all, meet_rows}
use Rattle.image.specs.Numbering.{reached}
use Rattle.image.specs.laws.NumberingLaws.{tail_members}
use Rattle.image.proofs.laws.NumberingLaws.{tails_of}
use Rattle.image.proofs.laws.Simulation.{fused_row_of}
use Rattle.node_numbering.specs.laws.Below.{concat_below}
use Rattle.node_numbering.specs.Grammar.{GrammarOf, Numbers, members_of}
use Rattle.node_numbering.specs.Leads.{Leads}
use Rattle.node_numbering.proofs.laws.ReachedNodes.{rows-size, reached-here, reached-inside}
use Rattle.node_numbering.specs.laws.RuleTails.{rule_part}
use Rattle.node_numbering.proofs.laws.RuleTails.{rule_tail, fused-parts, members_are}
use Rattle.node_numbering.specs.declared.Grammar.{Grammar}
use Rattle.node_numbering.specs.declared.Numbering.{Numbering}
use Rattle.node_numbering.proofs.Tails.{members-nodes}
use Rattle.node_numbering.proofs.Meeting.{part-members}

-- ---- one row

abbrev productions_of : Expression → ℕ → List Production
productions_of e node = (row_of (normal_form e) node).productions

-- The tail members of a rule in a node's row.
abbrev pub row_members : List Rule → Expression → ℕ → ℕ → List ℕ
row_members rules e node r = rule_part (λ p. p.tail) r (rule_tail rules (productions_of e node) r)

-- All rules' members together are those of the node's fused row.
pub row-whole : (rules : List Rule) (e : Expression) (node : ℕ)
    → concat_below (row_members rules e node) (length rules) ≡ tail_members (fused_from rules 0 (productions_of e node))
row-whole rules e node =
    fused-parts (λ p. p.tail) (productions_of e node) rules ∙ members_are (fused_from rules 0 (productions_of e node))

-- The members of the tail that was found for a rule are the rule's, and nodes.
pub tail_members-here : (rules : List Rule) (e : Expression) (node r : ℕ) (t : Option Tail)
    → tail_held t ≡ rule_tail rules (productions_of e node) r → row_members rules e node r ≡ members_of (tail_held t)
tail_members-here rules e node r t found =
    part-members r (rule_tail rules (productions_of e node) r) ∙ ap members_of (sym found)

pub tail_nodes : (g : Grammar) (rules : List Rule) (e : Expression) → GrammarOf g rules e → (node r : ℕ) (t : Option Tail)
    → tail_held t ≡ rule_tail rules (productions_of e node) r → All (λ n. n < 64) (members_of (tail_held t))
tail_nodes g rules e h node r t found = rw found (members-nodes h node r)

-- ---- all rows

fused-members : (rules : List Rule) (row : Row) → tail_members (fused_row rules row).productions ≡ tail_members (fused_from rules 0
    row.productions)
fused-members rules row = refl

-- The rows of the first i nodes met are done, and the others lead to all nodes reached.
pub record Walked (rules : List Rule) (e : Expression) (c : Numbering) (i : ℕ) : Type 0 where
  pub met : List ℕ
  pub numbers : Numbers c met
  pub behind : i ≤ length met
  pub rest : meet_rows (tails_of (fused rules (normal_form e))) (size e - i) i met ≡ reached (fused rules (normal_form e))

module _ (g : Grammar) (rules : List Rule) (e : Expression) (h : GrammarOf g rules e) where
  pub walked_start : (c : Numbering) → Numbers c (0 ∷ []) → Walked rules e c 0
  walked_start c n = record {
    met = 0 ∷ [];
    numbers = n;
    behind = omega arith;
    rest = unfold reached in
        ap (λ (k : ℕ). meet_rows (tails_of (fused rules (normal_form e))) k 0 (0 ∷ []))
        (let s = rows-size g rules e h in let z : size e - 0 ≡ length (fused rules (normal_form e)) = omega arith in z);
  }

  module _ (c : Numbering) (i : ℕ) (w : Walked rules e c i) where
    abbrev rows : List Row
    rows = fused rules (normal_form e)

    few : length w.met ≤ size e
    few =
        let m = rows-more (tails_of rows) (size e - i) i w.met in
        omega (arith, ap length (sym w.rest ∙ m.1), length-append w.met m.0, (reached-here g rules e h).few, rows-size g rules e h)

    pub node_reached : (node : ℕ) → node ≡ get_or c.met i 0 → i < c.count → node ≡ get_or (reached rows) i 0
    node_reached node is b =
        let m = rows-more (tails_of rows) (size e - i) i w.met in
        let l : i < length w.met = omega (arith, w.numbers.count) in
        let all : reached rows ≡ w.met ++ m.0 = sym w.rest ∙ m.1 in
        sym (ap (λ (k : List ℕ). get_or k i 0) all ∙ get_or-append w.met m.0 0 i l
        ∙ ap (λ (k : List ℕ). get_or k i 0) (sym w.numbers.nodes) ∙ get_or-take c.count c.met i 0 b ∙ sym is)

    pub next_node : (node : ℕ) → node ≡ get_or c.met i 0 → i < c.count → node < size e
    next_node node is b =
        let m = rows-more (tails_of rows) (size e - i) i w.met in
        let all : reached rows ≡ w.met ++ m.0 = sym w.rest ∙ m.1 in
        let bound : i < length (reached rows) = omega (arith, ap length all, length-append w.met m.0, w.numbers.count) in
        omega (arith, node_reached node is b, reached-inside g rules e h i bound)

    row_step : (node : ℕ) → node ≡ get_or c.met i 0 → i < c.count
        → meet_rows (tails_of rows) (size e - (i + 1)) (i + 1) (meet_all w.met (tail_members (fused_from rules 0 (productions_of e node))))
        ≡ reached rows
    row_step node is b =
        let l : i < length w.met = omega (arith, w.numbers.count) in
        let members = tail_members (fused_from rules 0 (productions_of e node)) in
        let here : get_or w.met i 0 ≡ node =
        ap (λ (k : List ℕ). get_or k i 0) (sym w.numbers.nodes) ∙ get_or-take c.count c.met i 0 b ∙ sym is in
        let row : tail_members (row_of rows (get_or w.met i 0)).productions ≡ members =
        ap (λ (r : Row). tail_members r.productions) (fused_row_of rules (normal_form e) (get_or w.met i 0))
        ∙ fused-members rules (row_of (normal_form e) (get_or w.met i 0))
        ∙ ap (λ (n : ℕ). tail_members (fused_from rules 0 (productions_of e n))) here in
        ap (λ (k : ℕ). meet_rows (tails_of rows) (size e - (i + 1)) k (meet_all w.met members)) (add-one i)
        ∙ sym (ap (λ (k : ℕ). meet_rows (tails_of rows) k i w.met) (let f = few in let z : size e - i ≡ suc (size e - (i + 1)) = omega arith in z)
        ∙ row_done (tails_of rows) (size e - (i + 1)) i w.met l
        ∙ ap (λ (m : List ℕ). meet_rows (tails_of rows) (size e - (i + 1)) (suc i) (meet_all w.met m)) row) ∙ w.rest

    -- All nodes reached begin with those met once the members of the next row have joined.
    pub row_leads : (node : ℕ) → node ≡ get_or c.met i 0 → i < c.count
        → Leads w.met (tail_members (fused_from rules 0 (productions_of e node))) (reached rows)
    row_leads node is b =
        let members = tail_members (fused_from rules 0 (productions_of e node)) in
        let m = rows-more (tails_of rows) (size e - (i + 1)) (i + 1) (meet_all w.met members) in
        record {
          rest = m.0;
          continues = sym (row_step node is b) ∙ m.1;
          few = omega (arith, (reached-here g rules e h).few, rows-size g rules e h, h.columns.nodes_most);
        }

    pub walked_next : (d : Numbering) (node : ℕ) → node ≡ get_or c.met i 0 → i < c.count
        → Numbers d (meet_all w.met (tail_members (fused_from rules 0 (productions_of e node)))) → Walked rules e d (i + 1)
    walked_next d node is b joins =
        let members = tail_members (fused_from rules 0 (productions_of e node)) in
        record {
          met = meet_all w.met members;
          numbers = joins;
          behind = omega (
            arith,
            w.numbers.count,
            ap length (meet_all_order w.met members),
            length-append w.met (first_met w.met members),
          );
          rest = row_step node is b;
        }

    pub walked_end : c.count ≤ i → Numbers c (reached rows) × (i ≡ length (reached rows))
    walked_end b =
        let all = sym (rows_done (tails_of rows) (size e - i) i w.met (omega (arith, w.numbers.count))) ∙ w.rest in
        (subst (Numbers c) all w.numbers, omega (arith, w.numbers.count, w.behind, ap length all))
