-- A rule's tail: what the code finds is what the rule has in the node's row, and its members are nodes.
use mathlib.Core.Path.{◌≡◌, refl, sym, ap, ◌∙◌}
use mathlib.Core.List.{List, map}
use mathlib.Core.Option as maybe
use mathlib.Core.Option.{none, some}
use Rattle.std.specs.Prelude.{Option}
use Prim.Native.Nat.{ℕ, zero, suc, ◌-◌, ◌<◌}
use native.Mathlib.Omega.{arith}
use lib.ListN.{get_or}
use lib.Seq.{get_or-take}
use Rattle.basics.specs.Lists.{All}
use Rattle.sheet.specs.Expression.{Expression, size}
use Rattle.sheet.specs.Sheet.{Rule}
use Rattle.normal_form.specs.Productions.{Production, row_of, production_of}
use Rattle.normal_form.specs.NormalForm.{normal_form}
use Rattle.normal_form.specs.ProductionWalk.{with_head}
use Rattle.normal_form.proofs.laws.Tails.{normal_form-in_range}
use Rattle.production_finder.specs.Columns.{tail_held, production_held}
use Rattle.production_finder.specs.declared.Tail.{Tail}
use Rattle.normal_form.proofs.laws.ProductionLaws.{Found, production_found}
use Rattle.basics.proofs.laws.Members.{all_of, all_member}
use Rattle.image.specs.laws.Simulation.{tail_of}
use Rattle.node_numbering.specs.Grammar.{GrammarOf, members_of}
use Rattle.node_numbering.specs.laws.RuleTails.{action_tail}
use Rattle.node_numbering.proofs.laws.RuleTails.{rule_tail}
use Rattle.node_numbering.specs.declared.Grammar.{Grammar}

with_head-tail : (t : ℕ) (o : maybe.Option (List ℕ)) → tail_of (with_head t o) ≡ o
with_head-tail t none = refl
with_head-tail t (some tail) = refl

pub skipping_tail : (a : ℕ) (ps : List Production) → a ≡ 0 → none ≡ action_tail a ps
skipping_tail a ps z = sym (ap (λ (k : ℕ). action_tail k ps) z ∙ (unfold action_tail in refl))

pub returning-tail : (a : ℕ) (ps : List Production) → (a ≡ 0 → ⊥) → (r : Option Tail) → production_held (a - 1) r ≡ production_of (a - 1) ps
    → tail_held r ≡ action_tail a ps
unfolding production_held
returning-tail a ps some_token r found =
    let next : suc (a - 1) ≡ a = omega arith in
    sym (with_head-tail (a - 1) (tail_held r)) ∙ ap tail_of found
    ∙ (let same : tail_of (production_of (a - 1) ps) ≡ action_tail (suc (a - 1)) ps = unfold action_tail in refl in same)
    ∙ ap (λ (k : ℕ). action_tail k ps) next

-- The action that the columns have for a rule gives the rule's tail.
pub tail_by_action : (g : Grammar) (rules : List Rule) (e : Expression) → GrammarOf g rules e → (rule : ℕ) → rule < g.rules
    → (ps : List Production) (o : maybe.Option (List ℕ)) → o ≡ action_tail (get_or g.action rule 0) ps → o ≡ rule_tail rules ps rule
unfolding rule_tail
tail_by_action g rules e h rule below ps o found =
    found ∙ sym (ap (λ (a : ℕ). action_tail a ps)
    (ap (λ (l : List ℕ). get_or l rule 0) (sym h.actions_held) ∙ get_or-take g.rules g.action rule 0 below))

-- The members of a rule's tail in a row of the normal form are nodes.
pub members-nodes : {g : Grammar} {rules : List Rule} {e : Expression} → GrammarOf g rules e → (n rule : ℕ)
    → All (λ m. m < 64) (members_of (rule_tail rules (row_of (normal_form e) n).productions rule))
unfolding rule_tail
members-nodes {g} {rules} {e} h n rule = go (get_or (map (λ r. r.action) rules) rule 0)
  where
    ps : List Production
    ps = (row_of (normal_form e) n).productions

    found : (t : ℕ) (o : maybe.Option Production) → Found t ps o → All (λ m. m < 64) (members_of (tail_of o))
    found t none f = unfold members_of in tt
    found t (some p) f = unfold members_of in
        all_of (λ m. m < 64) p.tail
        (λ x m. let b : x < size e = all_member (λ i. i < size e) p.tail
        (normal_form-in_range e h.columns.tokens h.columns.closed n p f.0).tail_below x m in
        omega (arith, h.columns.nodes_most))

    go : (a : ℕ) → All (λ m. m < 64) (members_of (action_tail a ps))
    go zero = unfold action_tail members_of in tt
    go (suc k) = unfold action_tail in found k (production_of k ps) (production_found k ps)
