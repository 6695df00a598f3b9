-- Laws of fusion: which production a rule has, that rules rise, and where each fused production comes from.
-- Nothing here speaks of numbering or of an image.
use Rattle.std.specs.Prelude.{◌≡◌, refl, ℕ, zero, suc, ◌+◌, ◌≤◌, ◌<◌, length}
use Rattle.std.proofs.Common.{sym, ap, subst, ◌∙◌, ⊎_elim, arith, eq-eqb, ne_eqb}
use mathlib.Core.List.Memᴰ
use mathlib.Core.List.{List, [], ◌∷◌, Memᴰ}
use Rattle.std.proofs.Math.Option.{Option, none, some}
use Rattle.sheet.specs.Sheet.{Rule}
use Rattle.normal_form.specs.Productions.{Production, production_of}
use Rattle.normal_form.proofs.laws.ProductionLaws.{Found, production_found}
use Rattle.lexer.specs.Words.{RuleAt, first_rule, later_rule}
use Rattle.image.specs.Fusion.{fused_from}
use Rattle.image.specs.ImageRanges.{Rising}
use Rattle.image.proofs.laws.ByRule.{by_rule}

-- Rule k returns token t: its action is t + 1.
pub record Returns (rules : List Rule) (k t : ℕ) : Type 0 where
  pub rule : Rule
  pub at : RuleAt rules k rule
  pub returns : rule.action ≡ suc t

-- ---- a rule's production

-- A production as the production of a rule.
abbrev pub as_rule : ℕ → Option Production → Option Production
as_rule r none = none
as_rule r (some p) = some (record { head = r; tail = p.tail })

by_rule_other : (r s : ℕ) (o : Option Production) (ps : List Production) → (r ≡ s → ⊥)
    → production_of s (by_rule r o ps) ≡ production_of s ps
unfolding production_of
by_rule_other r s none ps h = refl
by_rule_other r s (some p) ps h = rw (ne_eqb r s h, production_of)

by_rule_same : (r : ℕ) (o : Option Production) (ps : List Production) → production_of r ps ≡ none
    → production_of r (by_rule r o ps) ≡ as_rule r o
unfolding production_of
by_rule_same r none ps e = e
by_rule_same r (some p) ps e = rw (eq-eqb r r refl, production_of)

fused_later : (rule : Rule) (rules : List Rule) (r s : ℕ) (ps : List Production) → (r ≡ s → ⊥)
    → production_of s (fused_from (rule ∷ rules) r ps) ≡ production_of s (fused_from rules (suc r) ps)
unfolding fused_from
fused_later rule rules r s ps h = go rule.action
  where
    go : (a : ℕ)
        → production_of s (elim a [
          | zero ↦ fused_from rules (suc r) ps
          | suc k ↦ by_rule r (production_of k ps) (fused_from rules (suc r) ps)
        ])
        ≡ production_of s (fused_from rules (suc r) ps)
    go zero = refl
    go (suc k) = by_rule_other r s (production_of k ps) (fused_from rules (suc r) ps) h

fused_skips : (rule : Rule) (rules : List Rule) (r : ℕ) (ps : List Production) → rule.action ≡ 0
    → fused_from (rule ∷ rules) r ps ≡ fused_from rules (suc r) ps
unfolding fused_from
fused_skips rule rules r ps e =
    ap (λ (a : ℕ). elim a [ zero ↦ fused_from rules (suc r) ps | suc k ↦ by_rule r (production_of k ps) (fused_from rules (suc r) ps) ]) e

fused_returns : (rule : Rule) (rules : List Rule) (r t : ℕ) (ps : List Production) → rule.action ≡ suc t
    → fused_from (rule ∷ rules) r ps ≡ by_rule r (production_of t ps) (fused_from rules (suc r) ps)
unfolding fused_from
fused_returns rule rules r t ps e =
    ap (λ (a : ℕ). elim a [ zero ↦ fused_from rules (suc r) ps | suc k ↦ by_rule r (production_of k ps) (fused_from rules (suc r) ps) ]) e

-- Rules below r have no production among those from r on.
fused_earlier : (rules : List Rule) (r s : ℕ) (ps : List Production) → s < r → production_of s (fused_from rules r ps) ≡ none
unfolding fused_from production_of
fused_earlier [] r s ps h = refl
fused_earlier (rule ∷ rules) r s ps h = fused_later rule rules r s ps (omega arith) ∙ fused_earlier rules (suc r) s ps (omega arith)

fused-at : {rules : List Rule} {i : ℕ} {rule : Rule} → RuleAt rules i rule → (r s t : ℕ) (ps : List Production) → s ≡ r + i
    → rule.action ≡ suc t
    → production_of s (fused_from rules r ps) ≡ as_rule s (production_of t ps)
fused-at (first_rule {r = rule} {rs = rules}) r s t ps h e =
    ap (production_of s) (fused_returns rule rules r t ps e)
    ∙ subst (λ (z : ℕ). production_of s (by_rule z (production_of t ps) (fused_from rules (suc r) ps)) ≡ as_rule s (production_of t ps))
    (let same : s ≡ r = omega arith in same)
    (by_rule_same s (production_of t ps) (fused_from rules (suc r) ps) (fused_earlier rules (suc r) s ps (omega arith)))
fused-at (later_rule {s = rule} {rs = rules} a) r s t ps h e =
    fused_later rule rules r s ps (omega arith) ∙ fused-at a (suc r) s t ps (omega arith) e

fused_skip_at : {rules : List Rule} {i : ℕ} {rule : Rule} → RuleAt rules i rule → (r s : ℕ) (ps : List Production) → s ≡ r + i
    → rule.action ≡ 0
    → production_of s (fused_from rules r ps) ≡ none
fused_skip_at (first_rule {r = rule} {rs = rules}) r s ps h e =
    ap (production_of s) (fused_skips rule rules r ps e) ∙ fused_earlier rules (suc r) s ps (omega arith)
fused_skip_at (later_rule {s = rule} {rs = rules} a) r s ps h e =
    fused_later rule rules r s ps (omega arith) ∙ fused_skip_at a (suc r) s ps (omega arith) e

fused_past : (rules : List Rule) (r s : ℕ) (ps : List Production) → r + length rules ≤ s → production_of s (fused_from rules r ps) ≡ none
unfolding fused_from production_of
fused_past [] r s ps h = refl
fused_past (rule ∷ rules) r s ps h = fused_later rule rules r s ps (omega arith) ∙ fused_past rules (suc r) s ps (omega arith)

-- A rule that returns a token has the token's production, and none where the token has none.
pub rule-production : {rules : List Rule} {r t : ℕ} → Returns rules r t → (ps : List Production)
    → production_of r (fused_from rules 0 ps) ≡ as_rule r (production_of t ps)
rule-production {rules} {r} {t} h ps = fused-at h.at 0 r t ps (omega arith) h.returns

-- A rule that skips has none, nor has a number that is no rule's.
pub skipping_production : {rules : List Rule} {r : ℕ} {rule : Rule} → RuleAt rules r rule → rule.action ≡ 0 → (ps : List Production)
    → production_of r (fused_from rules 0 ps) ≡ none
skipping_production {rules} {r} {rule} h e ps = fused_skip_at h 0 r ps (omega arith) e

pub no_rule-production : (rules : List Rule) (r : ℕ) (ps : List Production) → length rules ≤ r
    → production_of r (fused_from rules 0 ps) ≡ none
no_rule-production rules r ps h = fused_past rules 0 r ps (omega arith)

-- ---- where a fused production comes from

-- A fused production is that of a rule, from r on, which returns the token that a production of the row begins with; the tails
-- are the same.
pub record FusedOf (rules : List Rule) (r : ℕ) (ps : List Production) (p : Production) : Type 0 where
  pub offset : ℕ
  pub rule : p.head ≡ r + offset
  pub source : Production
  pub returned : Returns rules offset source.head
  pub member : Memᴰ source ps
  pub same_tail : p.tail ≡ source.tail

later_fused : (rule : Rule) (rules : List Rule) (r : ℕ) (ps : List Production) (p : Production) → FusedOf rules (suc r) ps p
    → FusedOf (rule ∷ rules) r ps p
later_fused rule rules r ps p f = record {
  offset = suc f.offset;
  rule = let e = f.rule in omega arith;
  source = f.source;
  returned = record { rule = f.returned.rule; at = later_rule f.returned.at; returns = f.returned.returns };
  member = f.member;
  same_tail = f.same_tail;
}

pub fused_of : (rules : List Rule) (r : ℕ) (ps : List Production) (p : Production) → Memᴰ p (fused_from rules r ps)
    → FusedOf rules r ps p
unfolding fused_from
fused_of [] r ps p m = absurd (Memᴰ.not-nil m)
fused_of (rule ∷ rules) r ps p m = go (λ k. later_fused rule rules r ps p (fused_of rules (suc r) ps p k)) rule.action refl m
  where
    found : (Memᴰ p (fused_from rules (suc r) ps) → FusedOf (rule ∷ rules) r ps p) → (t : ℕ) → rule.action ≡ suc t
        → (o : Option Production) → Found t ps o → Memᴰ p (by_rule r o (fused_from rules (suc r) ps)) → FusedOf (rule ∷ rules) r ps p
    found later t e none f k = later k
    found later t e (some q) f k =
        ⊎_elim
        (λ same. record {
          offset = 0;
          rule = ap (λ (z : Production). z.head) same ∙ (let z : r ≡ r + 0 = omega arith in z);
          source = q;
          returned = record { rule = rule; at = first_rule; returns = e ∙ ap suc (sym f.1) };
          member = f.0;
          same_tail = ap (λ (z : Production). z.tail) same;
        })
        later
        (Memᴰ.cases_cons k)

    go : (Memᴰ p (fused_from rules (suc r) ps) → FusedOf (rule ∷ rules) r ps p) → (a : ℕ) → rule.action ≡ a
        → Memᴰ p (elim a [ zero ↦ fused_from rules (suc r) ps | suc k ↦ by_rule r (production_of k ps) (fused_from rules (suc r) ps) ])
        → FusedOf (rule ∷ rules) r ps p
    go later zero e k = later k
    go later (suc t) e k = found later t e (production_of t ps) (production_found t ps) k

-- ---- rising, and how many

rising_from : (least more : ℕ) (ps : List Production) → more ≤ least → Rising least ps → Rising more ps
rising_from least more [] h r = tt
rising_from least more (p ∷ ps) h r = ((let l = r.0 in omega arith), r.1)

pub fused_rising : (rules : List Rule) (r : ℕ) (ps : List Production) → Rising r (fused_from rules r ps)
unfolding fused_from
fused_rising [] r ps = tt
fused_rising (rule ∷ rules) r ps = go rule.action (fused_rising rules (suc r) ps)
  where
    found : (o : Option Production) → Rising (suc r) (fused_from rules (suc r) ps) → Rising r (by_rule r o (fused_from rules (suc r) ps))
    found none h = rising_from (suc r) r (fused_from rules (suc r) ps) (omega arith) h
    found (some q) h = (omega arith, h)

    go : (a : ℕ) → Rising (suc r) (fused_from rules (suc r) ps)
        → Rising r (elim a [ zero ↦ fused_from rules (suc r) ps | suc k ↦ by_rule r (production_of k ps) (fused_from rules (suc r) ps) ])
    go zero h = rising_from (suc r) r (fused_from rules (suc r) ps) (omega arith) h
    go (suc k) h = found (production_of k ps) h

pub fused-count : (rules : List Rule) (r : ℕ) (ps : List Production) → length (fused_from rules r ps) ≤ length rules
unfolding fused_from
fused-count [] r ps = omega arith
fused-count (rule ∷ rules) r ps = go rule.action (fused-count rules (suc r) ps)
  where
    found : (o : Option Production) → length (fused_from rules (suc r) ps) ≤ length rules
        → length (by_rule r o (fused_from rules (suc r) ps)) ≤ suc (length rules)
    found none h = omega arith
    found (some q) h = omega arith

    go : (a : ℕ) → length (fused_from rules (suc r) ps) ≤ length rules
        → length {A = Production} (elim a [
          | zero ↦ fused_from rules (suc r) ps
          | suc k ↦ by_rule r (production_of k ps) (fused_from rules (suc r) ps)
        ])
        ≤ suc (length rules)
    go zero h = omega arith
    go (suc k) h = found (production_of k ps) h
