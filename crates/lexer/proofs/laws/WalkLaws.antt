-- One step of the walk, and the walk over a text, over any list of positions: what is kept, what is held next, which rule ends a
-- match. Then over a sheet's own list: a rule ends a match there just where the text is a word of that rule.
use Rattle.std.specs.Prelude.{◌≡◌, refl, Bool, true, false, ◌&&◌, cond, List, [], ◌∷◌, ◌⊎◌, ◌↔◌, ℕ, suc, ◌^◌, min}
use Rattle.std.proofs.Math.Path.{sym, subst}
use Rattle.std.proofs.Common.{ap, ap₂, ◌∙◌, true≢false, inl, inr, ⊎_elim, zero-add}
use Rattle.std.proofs.Math.Logic.Iff
use Rattle.std.proofs.Math.Option.{Option, none, some}
use native.Mathlib.Omega.{arith}
use Rattle.basics.specs.Bits.{bit, ◌∈◌}
use Rattle.basics.proofs.laws.BitLaws.{∈_cases, ∈_left, ∈_right, ∈_zero, ∈_cond, ∈_when, ∈_one, ∈_self}
use Rattle.basics.proofs.laws.Order.{lt-or-le}
use Rattle.basics.proofs.laws.Truth.{and-true-first, and-true-second}
use Rattle.sheet.specs.Regex.{class_count}
use Rattle.sheet.specs.Sheet.{Rule}
use Rattle.lexer.specs.Words.{RuleAt, WordOf}
use Rattle.lexer.specs.Positions.{Position, last, follow, positions, first_positions}
use Rattle.lexer.specs.Walk.{has_byte, keep, follows, lower, ended_rule}
use Rattle.lexer.proofs.laws.Least.{LeastOf, least_iff}
use Rattle.lexer.proofs.laws.PositionSets.{Within, first_within, last_within, follow_within}
use Rattle.lexer.proofs.laws.Chains.{Automaton, of_regex, ChainAfter, Chain, Agrees, Spelled, after-map, after-part, after_end}
use Rattle.lexer.proofs.laws.Chains.{chain_part, word_chain}
use Rattle.lexer.proofs.laws.PositionList.{PositionFrom, first_place, later_place, PositionAt, no_place, place_one, by_place}
use Rattle.lexer.proofs.laws.PositionList.{Takes, part_agrees, RuleFrom, rule_from, rule_at, rule_place, rule_owned, first-some}
use Rattle.lexer.proofs.laws.PositionList.{first-all}

-- "a byte keeps the held positions whose class has it"
pub in_keep : (ps : List Position) (i held b j : ℕ) → j ∈ keep ps i held b
    → (p : Position) × PositionFrom ps i j p × (j ∈ held) × (has_byte p b ≡ true)
unfolding keep
in_keep [] i held b j h = ∈_zero j h
in_keep (p ∷ ps) i held b j h =
    ⊎_elim
    (λ x.
    let y = ∈_cond (bit held i && has_byte p b) (2 ^ i) j x in
    subst (λ (k : ℕ). (q : Position) × PositionFrom (p ∷ ps) i k q × (k ∈ held) × (has_byte q b ≡ true)) (∈_one i j y.1)
    (p, first_place, and-true-first (bit held i) (has_byte p b) y.0, and-true-second (bit held i) (has_byte p b) y.0))
    (λ x. let y = in_keep ps (suc i) held b j x in (y.0, later_place y.1, y.2, y.3))
    (∈_cases (cond (bit held i && has_byte p b) (2 ^ i) 0) (keep ps (suc i) held b) j h)

pub keep_in : {ps : List Position} {i j : ℕ} {p : Position} → PositionFrom ps i j p → (held b : ℕ) → j ∈ held → has_byte p b ≡ true
    → j ∈ keep ps i held b
unfolding keep
keep_in (first_place {p = p} {i = i}) held b h e =
    ∈_left (cond (bit held i && has_byte p b) (2 ^ i) 0) _ i (∈_when (bit held i && has_byte p b) (2 ^ i) i (ap₂ ◌&&◌ h e) (∈_self i))
keep_in (later_place {q = q} {i = i} {j = j} t) held b h e =
    ∈_right (cond (bit held i && has_byte q b) (2 ^ i) 0) _ j (keep_in t held b h e)

-- "then the follow sets of the kept ones, together, are held"
pub in_follows : (ps : List Position) (i kept q : ℕ) → q ∈ follows ps i kept
    → (j : ℕ) × (p : Position) × PositionFrom ps i j p × (j ∈ kept) × (q ∈ p.follow)
unfolding follows
in_follows [] i kept q h = ∈_zero q h
in_follows (p ∷ ps) i kept q h =
    ⊎_elim
    (λ x. let y = ∈_cond (bit kept i) p.follow q x in (i, p, first_place, y.0, y.1))
    (λ x. let y = in_follows ps (suc i) kept q x in (y.0, y.1, later_place y.2, y.3, y.4))
    (∈_cases (cond (bit kept i) p.follow 0) (follows ps (suc i) kept) q h)

pub follows_in : {ps : List Position} {i j : ℕ} {p : Position} → PositionFrom ps i j p → (kept q : ℕ) → j ∈ kept → q ∈ p.follow
    → q ∈ follows ps i kept
unfolding follows
follows_in (first_place {p = p} {i = i}) kept q h e = ∈_left (cond (bit kept i) p.follow 0) _ q (∈_when (bit kept i) p.follow q h e)
follows_in (later_place {q = p} {i = i} t) kept q h e = ∈_right (cond (bit kept i) p.follow 0) _ q (follows_in t kept q h e)

-- "a kept position that is last ends a match of its rule there"
abbrev pub EndsRule : List Position → ℕ → ℕ → ℕ → Type 0
EndsRule ps i kept k = (j : ℕ) × (p : Position) × PositionFrom ps i j p × (j ∈ kept) × (p.last ≡ true) × (p.rule ≡ k)

-- One more number of which Q holds.
least-lower : (Q R : ℕ → Type 0) (n : ℕ) (o : Option ℕ) → Q n → ((k : ℕ) → R k → Q k) → ((k : ℕ) → Q k → (n ≡ k) ⊎ R k) → LeastOf R o
    → LeastOf Q (lower n o)
unfolding lower
least-lower Q R n none q f g h = (q, λ j l x. ⊎_elim (λ e. omega arith) (h j) (g j x))
least-lower Q R n (some m) q f g h = (
  ⊎_elim
      (λ l. let e : n ≡ min n m = omega arith in subst Q e q)
      (λ l. let e : m ≡ min n m = omega arith in subst Q e (f m h.0))
      (lt-or-le n m),
  λ j l x. ⊎_elim (λ e. omega arith) (h.1 j (omega arith)) (g j x),
)

ends_later : {p : Position} {ps : List Position} {i : ℕ} (kept k : ℕ) → EndsRule ps (suc i) kept k → EndsRule (p ∷ ps) i kept k
ends_later kept k h = (h.0, h.1, later_place h.2, h.3, h.4, h.5)

ends_cases : (p : Position) (ps : List Position) (i kept k : ℕ) → EndsRule (p ∷ ps) i kept k
    → (((bit kept i && p.last) ≡ true) × (p.rule ≡ k)) ⊎ EndsRule ps (suc i) kept k
ends_cases p ps i kept k h =
    by_place
    (λ j x. j ∈ kept → x.last ≡ true → x.rule ≡ k → (((bit kept i && p.last) ≡ true) × (p.rule ≡ k)) ⊎ EndsRule ps (suc i) kept k)
    (λ x y z. inl (ap₂ ◌&&◌ x y, z))
    (λ j q t x y z. inr (j, q, t, x, y, z))
    h.2 h.3 h.4 h.5

-- "for equal length, the lowest rule"
pub ended-least : (ps : List Position) (i kept : ℕ) → LeastOf (EndsRule ps i kept) (ended_rule ps i kept)
unfolding ended_rule
ended-least [] i kept = λ k h. no_place h.2
ended-least (p ∷ ps) i kept = go (bit kept i && p.last) refl (ended-least ps (suc i) kept)
  where
    go : (b : Bool) → (bit kept i && p.last) ≡ b → LeastOf (EndsRule ps (suc i) kept) (ended_rule ps (suc i) kept)
        → LeastOf (EndsRule (p ∷ ps) i kept) (elim b [ true ↦ lower p.rule (ended_rule ps (suc i) kept) | false ↦ ended_rule ps (suc i) kept ])
    go true e h =
        least-lower (EndsRule (p ∷ ps) i kept) (EndsRule ps (suc i) kept) p.rule (ended_rule ps (suc i) kept)
        (i, p, first_place, and-true-first (bit kept i) p.last e, and-true-second (bit kept i) p.last e, refl)
        (λ k x. ends_later kept k x)
        (λ k x. ⊎_elim (λ y. inl y.1) inr (ends_cases p ps i kept k x))
        h
    go false e h =
        least_iff (EndsRule ps (suc i) kept) (EndsRule (p ∷ ps) i kept)
        (λ k. (ends_later kept k, λ x. ⊎_elim (λ y. absurd (true≢false (sym y.0 ∙ e))) (λ y. y) (ends_cases p ps i kept k x)))
        (ended_rule ps (suc i) kept) h

-- The automaton of any list of positions with a set held at first, for the matches of rule k.
abbrev pub of_positions : List Position → ℕ → ℕ → Automaton
of_positions ps held k = record {
  begins = λ q. q ∈ held;
  leads = λ p q. (x : Position) × PositionAt ps p x × (q ∈ x.follow);
  ends = λ p. (x : Position) × PositionAt ps p x × (x.last ≡ true) × (x.rule ≡ k);
}

-- A chain of these positions spells the text, from the held ones to a last one of rule k.
abbrev pub Matches : List Position → ℕ → ℕ → List ℕ → Type 0
Matches ps held k w = Chain (Takes ps) (of_positions ps held k) w

-- One byte: the text ends a match just where a kept position does.
pub one_step : (ps : List Position) (held k b : ℕ) → EndsRule ps 0 (keep ps 0 held b) k ↔ Matches ps held k (b ∷ [])
one_step ps held k b = (
  λ h. let x = in_keep ps 0 held b h.0 h.3 in (h.0, x.2, (x.0, x.1, x.3), (h.1, h.2, h.4, h.5)),
  λ h. (h.0, h.3.0, h.3.1, keep_in h.2.1 held b h.1 h.2.2, h.3.2, h.3.3),
)

-- What is held at first does not matter once a chain has begun.
held_other : (ps : List Position) (held other k p : ℕ) (u : List ℕ) → ChainAfter (Takes ps) (of_positions ps held k) p u
    → ChainAfter (Takes ps) (of_positions ps other k) p u
held_other ps held other k = after-part (Takes ps) (of_positions ps held k) (of_positions ps other k) (λ p q x. x) (λ p x. x)

-- Before more bytes: the follow sets of the kept positions are held for the rest.
pub more-steps : (ps : List Position) (held k b a : ℕ) (u : List ℕ)
    → Matches ps (follows ps 0 (keep ps 0 held b)) k (a ∷ u) ↔ Matches ps held k (b ∷ (a ∷ u))
more-steps ps held k b a u = (
  λ h.
      let y = in_follows ps 0 (keep ps 0 held b) h.0 h.1 in
      let x = in_keep ps 0 held b y.0 y.3 in
      let rest = held_other ps (follows ps 0 (keep ps 0 held b)) held k h.0 u h.3 in
      (y.0, x.2, (x.0, x.1, x.3), (h.0, (y.1, y.2, y.4), h.2, rest)),
  λ h.
      let kept = keep_in h.2.1 held b h.1 h.2.2 in
      let n = h.3 in
      let rest = held_other ps held (follows ps 0 (keep ps 0 held b)) k n.0 u n.3 in
      (n.0, follows_in n.1.1 (keep ps 0 held b) n.0 kept n.1.2, n.2, rest),
)

-- The positions that the last byte of b ∷ u keeps.
unfoldable pub kept_by : List Position → ℕ → ℕ → List ℕ → ℕ
kept_by ps held b [] = keep ps 0 held b
kept_by ps held b (a ∷ u) = kept_by ps (follows ps 0 (keep ps 0 held b)) a u

pub kept_chain : (ps : List Position) (held k b : ℕ) (u : List ℕ) → EndsRule ps 0 (kept_by ps held b u) k ↔ Matches ps held k (b ∷ u)
unfolding kept_by
kept_chain ps held k b [] = one_step ps held k b
kept_chain ps held k b (a ∷ u) = Iff.trans (kept_chain ps (follows ps 0 (keep ps 0 held b)) k a u) (more-steps ps held k b a u)

-- A rule's own chains, and those of the sheet's list.
module _ (rules : List Rule) where
  leads_own : {n : ℕ} {r : Rule} {c : ℕ} → RuleFrom rules 0 0 n r c → (p q : ℕ) → Within c (class_count r.regex) p
      → (x : Position) × PositionAt (positions rules) p x × (q ∈ x.follow)
      → (q ∈ follow r.regex c p) × Within c (class_count r.regex) q
  unfolding positions
  leads_own {r = r} {c = c} u p q i h =
      let own = rule_owned u p i in
      let m : q ∈ follow r.regex c p =
      subst (λ (s : ℕ). q ∈ s) (ap (λ (x : Position). x.follow) (place_one h.1 own.1) ∙ own.2.own_follow) h.2 in
      (m, (follow_within r.regex c p q m).1)

  ends_own : {n : ℕ} {r : Rule} {c : ℕ} → RuleFrom rules 0 0 n r c → (k p : ℕ) → Within c (class_count r.regex) p
      → (x : Position) × PositionAt (positions rules) p x × (x.last ≡ true) × (x.rule ≡ k) → (p ∈ last r.regex c) × (n ≡ k)
  unfolding positions
  ends_own u k p i h =
      let own = rule_owned u p i in
      let e = place_one h.1 own.1 in (
        sym (ap (λ (x : Position). x.last) e ∙ own.2.own_last) ∙ h.2,
        sym (ap (λ (x : Position). x.rule) e ∙ own.2.own_rule) ∙ h.3,
      )

  rule_agrees : {n : ℕ} {r : Rule} {c : ℕ} → RuleFrom rules 0 0 n r c → Agrees (Takes (positions rules)) r.regex c
  unfolding positions
  rule_agrees {n} {r} {c} u = part_agrees (positions rules) r.regex c n r.regex c (rule_place u)

  matches_word : (k b : ℕ) (u : List ℕ) → Matches (positions rules) (first_positions rules) k (b ∷ u) → WordOf rules k (b ∷ u)
  unfolding first_positions
  matches_word k b u h =
      let s = first-some rules 0 0 h.0 h.1 in
      let n = s.0 in
      let r = s.1 in
      let c = s.2 in
      let t = s.3 in
      let A = of_positions (positions rules) (first_positions rules) k in
      let I = Within c (class_count r.regex) in
      let i = first_within r.regex c h.0 s.4 in
      let chain : Spelled (Takes (positions rules)) r.regex c (b ∷ u) = (
        h.0,
        s.4,
        h.2,
        after-map (Takes (positions rules)) A (of_regex r.regex c) I (leads_own t) (λ p i x. (ends_own t k p i x).0) h.0 u i h.3,
      ) in
      let end = after_end (Takes (positions rules)) A I (λ p q i x. (leads_own t p q i x).1) h.0 u i h.3 in
      let e : n ≡ k = (ends_own t k end.0 end.1 end.2).1 in
      let a = rule_at t in
      let f : a.0 ≡ k = omega arith in
      (r, subst (λ (x : ℕ). RuleAt rules x r) f a.2, (word_chain (Takes (positions rules)) r.regex c (rule_agrees t) b u).1 chain)

  word_matches : (k b : ℕ) (u : List ℕ) → WordOf rules k (b ∷ u) → Matches (positions rules) (first_positions rules) k (b ∷ u)
  unfolding first_positions positions
  word_matches k b u h =
      let r = h.0 in
      let f = rule_from h.1 0 0 in
      let c = f.0 in
      let t : RuleFrom rules 0 0 k r c = subst (λ (x : ℕ). RuleFrom rules 0 0 x r c) (zero-add k) f.1 in
      chain_part (Takes (positions rules)) (of_regex r.regex c) (of_positions (positions rules) (first_positions rules) k)
      (first-all t)
      (λ p q x.
      let own = rule_owned t p (follow_within r.regex c p q x).0 in
      (own.0, own.1, subst (λ (s : ℕ). q ∈ s) (sym own.2.own_follow) x))
      (λ p x.
      let own = rule_owned t p (last_within r.regex c p x) in
      (own.0, own.1, own.2.own_last ∙ x, own.2.own_rule))
      (b ∷ u)
      ((word_chain (Takes (positions rules)) r.regex c (rule_agrees t) b u).0 h.2)

  pub matches_right : (k b : ℕ) (u : List ℕ) → Matches (positions rules) (first_positions rules) k (b ∷ u) ↔ WordOf rules k (b ∷ u)
  matches_right k b u = (matches_word k b u, word_matches k b u)

  -- The walk decides the words of all rules at once.
  pub kept_right : (k b : ℕ) (u : List ℕ)
      → EndsRule (positions rules) 0 (kept_by (positions rules) (first_positions rules) b u) k ↔ WordOf rules k (b ∷ u)
  kept_right k b u = Iff.trans (kept_chain (positions rules) (first_positions rules) k b u) (matches_right k b u)
