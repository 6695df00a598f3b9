-- The loop over the rules on the stack: their sets together, and the rule of each position. Which of them has the empty word is not
-- asked here.
use mathlib.Core.Path.{◌≡◌, refl, sym, ap, ◌∙◌, subst}
use mathlib.Core.Bool.{Bool, cond}
use mathlib.Core.List.{List, [], ◌∷◌}
use mathlib.Core.Logic.{⊎_elim}
use Prim.Native.Nat.{ℕ, suc, ◌+◌, ◌-◌, ◌≤◌, ◌<◌}
use native.Mathlib.Omega.{arith}
use native.Mathlib.Numerals.{add-one}
use lib.Bits.{bit_or, or_zero_r}
use lib.ListN.{length, drop, get_or, replicate, length-replicate, length-drop, drop_of_length-le}
use lib.Seq.{drop-cons}
use borrow.Author.Tests.{lt-ltb, le-ltb}
use Rattle.basics.proofs.laws.BitLaws.{or_assoc}
use Rattle.basics.specs.Lists.{sum}
use Rattle.basics.proofs.laws.Order.{lt-or-le}
use Rattle.sheet.specs.Regex.{Regex, empty, class_count}
use Rattle.lexer.specs.Positions.{first, last}
use Rattle.position_finder.specs.declared.Sets.{Sets}
use Rattle.position_finder.specs.Stacks.{Stacked}
use Rattle.position_finder.specs.Nodes.{sets_of}
use Rattle.position_finder.specs.Forests.{all_sets, all_first, all_last, owner, filled, unused, RulesStacked, RuleSetsOf}
use Rattle.position_finder.proofs.Changes.{changed-length, changed-inside, changed-below}
use Rattle.position_finder.proofs.Sweeping.{all_sets-length}

-- The first k rules are done; their positions end at the base.
pub record Gathering (rs rest : List Regex) (stack : List Sets) (k base first last : ℕ) (rule : List ℕ) : Type 0 where
  pub rule_size : length rule ≡ 64
  pub stacked : Stacked unused stack (all_sets rest base)
  pub classes_left : base + sum class_count rest ≡ sum class_count rs
  pub firsts : bit_or first (all_first rest base) ≡ all_first rs 0
  pub lasts : bit_or last (all_last rest base) ≡ all_last rs 0
  pub owners : (p : ℕ) → p < base → get_or rule p 0 ≡ owner rs 0 0 p
  pub owners_left : (p : ℕ) → base ≤ p → owner rest k base p ≡ owner rs 0 0 p

pub gathering_start : (stack : List Sets) (count : ℕ) (rs : List Regex) → RulesStacked stack count rs
    → Gathering rs rs stack 0 0 0 0 (replicate 64 0)
gathering_start stack count rs h = record {
  rule_size = length-replicate {A = ℕ} 64 0;
  stacked = h.stacked;
  classes_left = omega arith;
  firsts = refl;
  lasts = refl;
  owners = λ p l. absurd (omega arith);
  owners_left = λ p l. refl;
}

module _ (rs rest : List Regex) (r : Regex) (stack : List Sets) (k base fst lst : ℕ) (rule : List ℕ)
    (fits : sum class_count rs ≤ 64) (g : Gathering rs (r ∷ rest) stack k base fst lst rule) where
  step_owners : (p : ℕ) → p < base + class_count r → get_or (filled base (base + class_count r) k rule) p 0 ≡ owner rs 0 0 p
  unfolding owner
  step_owners p h =
      let b : p < length rule = omega (arith, g.rule_size, g.classes_left) in
      ⊎_elim
      (λ l. changed-below base (base + class_count r) (λ i x. k) rule p b l ∙ g.owners p l)
      (λ l.
      changed-inside base (base + class_count r) (λ i x. k) rule p b l h
      ∙ sym (ap (λ (t : Bool). cond t k (owner rest (suc k) (base + class_count r) p)) (lt-ltb p (base + class_count r) h))
      ∙ g.owners_left p l)
      (lt-or-le p base)

  gathered_sets : Gathering rs rest stack (suc k) (base + class_count r) (bit_or fst (first r base)) (bit_or lst (last r base))
      (filled base (base + class_count r) k rule)
  unfolding owner all_first all_last all_sets
  gathered_sets = record {
    rule_size = changed-length base (base + class_count r) (λ i x. k) 0 rule ∙ g.rule_size;
    stacked = g.stacked.1;
    classes_left = omega (arith, g.classes_left);
    firsts = or_assoc fst (first r base) (all_first rest (base + class_count r)) ∙ g.firsts;
    lasts = or_assoc lst (last r base) (all_last rest (base + class_count r)) ∙ g.lasts;
    owners = step_owners;
    owners_left = λ p h.
        sym (ap (λ (t : Bool). cond t k (owner rest (suc k) (base + class_count r) p)) (le-ltb p (base + class_count r) h))
        ∙ g.owners_left p (omega arith);
  }

-- The entry of the rule that comes next.
pub rule_entry : (stack : List Sets) (count : ℕ) (rs : List Regex) (k base fst lst : ℕ) (rule : List ℕ)
    → RulesStacked stack count rs → k < count → Gathering rs (drop k rs) stack k base fst lst rule
    → (r : Regex) × Gathering rs (r ∷ drop (suc k) rs) stack k base fst lst rule × (get_or stack (count - k + 1) unused ≡ sets_of r base)
unfolding all_sets
rule_entry stack count rs k base fst lst rule h l g =
    let b : k < length rs = omega (arith, h.rules) in
    let r = get_or rs k empty in
    let m = subst (λ (x : List Regex). Gathering rs x stack k base fst lst rule) (drop-cons rs k empty b) g in
    let later = all_sets (drop (suc k) rs) (base + class_count r) in
    let d = all_sets-length (drop (suc k) rs) (base + class_count r) in
    let n : count - k + 1 ≡ 2 + length later = omega (arith, h.rules, length-drop (suc k) rs, d) in
    (r, m, ap (λ (i : ℕ). get_or stack i unused) n ∙ m.stacked.0)

module _ (stack : List Sets) (count : ℕ) (rs : List Regex) (k base fst lst : ℕ) (rule : List ℕ) (h : RulesStacked stack count rs)
    (l : k < count) (g : Gathering rs (drop k rs) stack k base fst lst rule) where
  -- Where a rule's positions end.
  pub end_least : base ≤ (get_or stack (count - k + 1) unused).end
  unfolding sets_of
  end_least =
      let e = rule_entry stack count rs k base fst lst rule h l g in
      omega (arith, ap (λ (x : Sets). x.end) e.2)

  pub end_most : (get_or stack (count - k + 1) unused).end ≤ 64
  unfolding sets_of
  end_most =
      let e = rule_entry stack count rs k base fst lst rule h l g in
      omega (arith, ap (λ (x : Sets). x.end) e.2, e.1.classes_left, h.classes_fit)

  pub gathering_more : (sets : Sets) (new : List ℕ) → sets ≡ get_or stack (count - k + 1) unused → new ≡ filled base sets.end k rule
      → Gathering rs (drop (k + 1) rs) stack (k + 1) sets.end (bit_or fst sets.first) (bit_or lst sets.last) new
  unfolding sets_of
  gathering_more sets new e f =
      let i = rule_entry stack count rs k base fst lst rule h l g in
      let s : sets ≡ sets_of i.0 base = e ∙ i.2 in
      subst (Gathering rs (drop (k + 1) rs) stack (k + 1) sets.end (bit_or fst sets.first) (bit_or lst sets.last)) (sym f)
      (subst
      (λ (x : Sets).
      Gathering rs (drop (k + 1) rs) stack (k + 1) x.end (bit_or fst x.first) (bit_or lst x.last) (filled base x.end k rule))
      (sym s)
      (subst
      (λ (n : ℕ).
      Gathering rs (drop n rs) stack n (base + class_count i.0) (bit_or fst (first i.0 base)) (bit_or lst (last i.0 base))
      (filled base (base + class_count i.0) k rule))
      (sym (add-one k))
      (gathered_sets rs (drop (suc k) rs) i.0 stack k base fst lst rule h.classes_fit i.1)))

pub gathering_end : (stack : List Sets) (count : ℕ) (rs : List Regex) (k base fst lst : ℕ) (rule : List ℕ)
    → RulesStacked stack count rs → count ≤ k → Gathering rs (drop k rs) stack k base fst lst rule
    → RuleSetsOf rs (record { rule = rule; first = fst; last = lst })
unfolding all_first all_last
gathering_end stack count rs k base fst lst rule h l g =
    let e : drop k rs ≡ [] = drop_of_length-le rs {i = k} (omega (arith, h.rules)) in
    let d = subst (λ (x : List Regex). Gathering rs x stack k base fst lst rule) e g in
    record {
      firsts = sym (or_zero_r fst) ∙ d.firsts;
      lasts = sym (or_zero_r lst) ∙ d.lasts;
      owners = λ p b. d.owners p (omega (arith, d.classes_left));
    }
