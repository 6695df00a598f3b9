-- The ranges of a sheet's positions and sets: how many positions there are, that sets lie below 2 to that number, that rules never
-- fall and are below the number of rules, that bounds of classes are bytes. They are the ranges that an image asks for.
use Rattle.std.specs.Prelude.{◌≡◌, refl, Bool, true, ◌||◌, ◌&&◌, List, [], ◌∷◌, ℕ, suc, ◌+◌, ◌≤◌, ◌<◌, ◌^◌, length}
use Rattle.std.proofs.Common.{sym, ap, ap₂, ◌∙◌, subst, ⊎_elim, arith, zero-add, length-append}
use Rattle.std.proofs.Math.Option.{none}
use Rattle.basics.specs.Lists.{All, sum}
use Rattle.basics.proofs.laws.Order.{lt-or-le}
use Rattle.sheet.specs.Regex.{Regex, empty, class, concat, union, star, class_count}
use Rattle.sheet.specs.Sheet.{Rule, Sheet}
use Rattle.sheet.specs.WellFormed.{BytesInRange, RuleInRange, WithinLimits}
use Rattle.lexer.specs.Words.{first_rule, WordOf}
use Rattle.lexer.specs.Positions.{Position, nullable, follow, part_positions, positions_from, positions, first_from}
use Rattle.lexer.specs.Positions.{first_positions, empty_match}
use Rattle.lexer.proofs.laws.EmptyWord.{nullable_word, none_empty, word_later}
use Rattle.lexer.proofs.laws.SetBounds.{below_power, members_below}
use Rattle.lexer.proofs.laws.PositionSets.{first_within, follow_within}
use Rattle.lexer.specs.Walk.{keep, follows}
use Rattle.lexer.proofs.laws.WalkLaws.{in_keep, in_follows}
use Rattle.lexer.proofs.laws.PositionList.{all-at, all_places, PositionFrom, first_place, later_place, place_within, by_place}
use Rattle.lexer.proofs.laws.PositionList.{no_place, place_cases}
use Rattle.lexer.proofs.laws.PositionList.{part-length, PartAt, part-cases, part_owned, RuleFrom, this_rule, next_rule, first-some}
use Rattle.lexer.specs.laws.PositionBounds.{ByteClass, NeverFalling, PositionsInRange}

-- P: the byte classes of all rules.
abbrev pub class_total : List Rule → ℕ
class_total rules = sum (λ r. class_count r.regex) rules

pub positions_from-length : (rules : List Rule) (k base : ℕ) → length (positions_from rules k base) ≡ class_total rules
unfolding positions_from
positions_from-length [] k base = refl
positions_from-length (r ∷ rs) k base =
    length-append (part_positions r.regex base k r.regex base) (positions_from rs (suc k) (base + class_count r.regex))
    ∙ ap₂ ◌+◌ (part-length r.regex base k r.regex base) (positions_from-length rs (suc k) (base + class_count r.regex))

pub positions-length : (rules : List Rule) → length (positions rules) ≡ class_total rules
unfolding positions
positions-length rules = positions_from-length rules 0 0

-- Which rule the position at a place belongs to.
pub place_rule : (rules : List Rule) (k base : ℕ) {j : ℕ} {x : Position} → PositionFrom (positions_from rules k base) base j x
    → (n : ℕ) × (r : Rule) × (c : ℕ) × RuleFrom rules k base n r c × PartAt r.regex c n r.regex c j x
unfolding positions_from
place_rule [] k base t = no_place t
place_rule (r ∷ rs) k base {j} {x} t =
    let rest = positions_from rs (suc k) (base + class_count r.regex) in
    ⊎_elim
    (λ y. (k, r, base, this_rule, y))
    (λ y.
    let n = part-length r.regex base k r.regex base in
    let z = place_rule rs (suc k) (base + class_count r.regex) (subst (λ (m : ℕ). PositionFrom rest (base + m) j x) n y) in
    (z.0, z.1, z.2, next_rule z.3, z.4))
    (place_cases (part_positions r.regex base k r.regex base) rest t)

-- Where a rule's number and its positions lie.
pub rule_range : {rules : List Rule} {k base n : ℕ} {r : Rule} {c : ℕ} → RuleFrom rules k base n r c
    → (k ≤ n) × (n < k + length rules) × (base ≤ c) × (c + class_count r.regex ≤ base + class_total rules)
rule_range this_rule = (omega arith, omega arith, omega arith, omega arith)
rule_range (next_rule t) = let h = rule_range t in (omega arith, omega arith, omega arith, omega arith)

rule_order : {rules : List Rule} {k base n m : ℕ} {r s : Rule} {c d : ℕ} → RuleFrom rules k base n r c → RuleFrom rules k base m s d → n < m
    → c + class_count r.regex ≤ d
rule_order this_rule this_rule l = absurd (omega arith)
rule_order this_rule (next_rule t) l = (rule_range t).2
rule_order (next_rule t) this_rule l = let h = rule_range t in absurd (omega arith)
rule_order (next_rule t) (next_rule u) l = rule_order t u l

-- "sets below 2^P"
pub first_below : (rules : List Rule) → first_positions rules < 2 ^ class_total rules
unfolding first_positions
first_below rules =
    below_power (first_from rules 0) (class_total rules)
    (λ i h.
    let s = first-some rules 0 0 i h in
    let l = (rule_range s.3).3 in
    let w = first_within s.1.regex s.2 i s.4 in
    omega (arith, zero-add (class_total rules)))

pub follows-below : (rules : List Rule) → All (λ p. p.follow < 2 ^ class_total rules) (positions rules)
unfolding positions
follows-below rules =
    all_places (λ p. p.follow < 2 ^ class_total rules) (positions rules) 0
    (λ j p t.
    let s = place_rule rules 0 0 t in
    let own = part_owned s.1.regex s.2 s.0 s.1.regex s.2 s.4 in
    let l = (rule_range s.3).3 in
    subst (λ (x : ℕ). x < 2 ^ class_total rules) (sym own.own_follow)
    (below_power (follow s.1.regex s.2 j) (class_total rules)
    (λ i h. let w = (follow_within s.1.regex s.2 j i h).1 in omega (arith, zero-add (class_total rules)))))

-- "rules of positions below R"
pub rules-below : (rules : List Rule) → All (λ p. p.rule < length rules) (positions rules)
unfolding positions
rules-below rules =
    all_places (λ p. p.rule < length rules) (positions rules) 0
    (λ j p t.
    let s = place_rule rules 0 0 t in
    let own = part_owned s.1.regex s.2 s.0 s.1.regex s.2 s.4 in
    let l = (rule_range s.3).1 in
    omega (arith, own.own_rule, zero-add (length rules)))

rising_places : (ps : List Position) (low i : ℕ) → ((j : ℕ) (p : Position) → PositionFrom ps i j p → low ≤ p.rule)
    → ((j l : ℕ) (p q : Position) → j < l → PositionFrom ps i j p → PositionFrom ps i l q → p.rule ≤ q.rule) → NeverFalling low ps
rising_places [] low i f g = tt
rising_places (p ∷ ps) low i f g = (
  f i p first_place,
  rising_places ps p.rule (suc i) (λ j q t. let w = place_within t in g i j p q (omega arith) first_place (later_place t))
      (λ j l q s m t u. g j l q s m (later_place t) (later_place u)),
)

pub never_falling : (rules : List Rule) → NeverFalling 0 (positions rules)
unfolding positions
never_falling rules =
    rising_places (positions rules) 0 0 (λ j p t. omega arith)
    (λ j l p q m t u.
    let a = place_rule rules 0 0 t in
    let b = place_rule rules 0 0 u in
    let o = part_owned a.1.regex a.2 a.0 a.1.regex a.2 a.4 in
    let e = part_owned b.1.regex b.2 b.0 b.1.regex b.2 b.4 in
    let v = place_within a.4 in
    let w = place_within b.4 in
    let n = part-length b.1.regex b.2 b.0 b.1.regex b.2 in
    ⊎_elim
    (λ x. let y = rule_order b.3 a.3 x in absurd (omega arith))
    (λ x. omega (arith, o.own_rule, e.own_rule))
    (lt-or-le b.0 a.0))

part_bytes : (whole : Regex) (base k : ℕ) (r : Regex) (p : ℕ) → BytesInRange r → {j : ℕ} {x : Position}
    → PartAt whole base k r p j x → ByteClass x
unfolding part_positions
part_bytes whole base k empty p a t = no_place t
part_bytes whole base k (class low high) p a t = by_place (λ j x. ByteClass x) a (λ j x y. no_place y) t
part_bytes whole base k (concat r s) p a t =
    ⊎_elim (part_bytes whole base k r p a.0) (part_bytes whole base k s (p + class_count r) a.1) (part-cases whole base k r s p t)
part_bytes whole base k (union r s) p a t =
    ⊎_elim (part_bytes whole base k r p a.0) (part_bytes whole base k s (p + class_count r) a.1) (part-cases whole base k r s p t)
part_bytes whole base k (star r) p a t = part_bytes whole base k r p a t

rule_holds : {rules : List Rule} {k base n : ℕ} {r : Rule} {c : ℕ} (Q : Rule → Type 0) → All Q rules → RuleFrom rules k base n r c → Q r
rule_holds Q a this_rule = a.0
rule_holds Q a (next_rule t) = rule_holds Q a.1 t

pub classes_bytes : (rules : List Rule) → All (λ r. BytesInRange r.regex) rules → All ByteClass (positions rules)
unfolding positions
classes_bytes rules a =
    all_places ByteClass (positions rules) 0
    (λ j p t.
    let s = place_rule rules 0 0 t in
    part_bytes s.1.regex s.2 s.0 s.1.regex s.2 (rule_holds (λ r. BytesInRange r.regex) a s.3) s.4)

-- A regex without a byte class has the empty word; so where no rule matches it, there are as many positions as rules or more.
no_class_nullable : (r : Regex) → class_count r ≡ 0 → nullable r ≡ true
unfolding class_count nullable
no_class_nullable empty e = refl
no_class_nullable (class low high) e = absurd (omega arith)
no_class_nullable (concat r s) e = ap₂ ◌&&◌ (no_class_nullable r (omega arith)) (no_class_nullable s (omega arith))
no_class_nullable (union r s) e = ap (λ (x : Bool). x || nullable s) (no_class_nullable r (omega arith))
no_class_nullable (star r) e = refl

rules-at_most : (rules : List Rule) → ((j : ℕ) → WordOf rules j [] → ⊥) → length rules ≤ class_total rules
rules-at_most [] f = omega arith
rules-at_most (r ∷ rs) f =
    let h = rules-at_most rs (λ j x. f (suc j) (word_later x)) in
    ⊎_elim
    (λ l. absurd (f 0 (r, first_rule, nullable_word r.regex (no_class_nullable r.regex (omega arith)))))
    (λ l. omega arith)
    (lt-or-le (class_count r.regex) 1)

pub rules-at_most_positions : (rules : List Rule) → empty_match rules 0 ≡ none → length rules ≤ length (positions rules)
rules-at_most_positions rules e =
    subst (λ (n : ℕ). length rules ≤ n) (sym (positions-length rules)) (rules-at_most rules ((none_empty rules).0 e))

-- Over any positions: what is kept is a set of their places, and what is held next is below what bounds their follow sets.
pub keep-below : (ps : List Position) (i held b : ℕ) → keep ps i held b < 2 ^ (i + length ps)
keep-below ps i held b = below_power (keep ps i held b) (i + length ps) (λ j h. (place_within (in_keep ps i held b j h).1).1)

pub held-below : (ps : List Position) (i kept n : ℕ) → All (λ p. p.follow < 2 ^ n) ps → follows ps i kept < 2 ^ n
held-below ps i kept n a =
    below_power (follows ps i kept) n
    (λ q h.
    let x = in_follows ps i kept q h in
    members_below x.1.follow n q (all-at (λ p. p.follow < 2 ^ n) a x.2) x.4)

rules_bytes : (tokens : ℕ) (rules : List Rule) → All (RuleInRange tokens) rules → All (λ r. BytesInRange r.regex) rules
rules_bytes tokens [] a = tt
rules_bytes tokens (r ∷ rs) a = (a.0.bytes_allowed, rules_bytes tokens rs a.1)

-- The positions of a sheet within the limits whose rules match only non-empty words are in range.
pub positions_in_range : (s : Sheet) → WithinLimits s → empty_match s.rules 0 ≡ none
    → PositionsInRange (length s.rules) (positions s.rules) (first_positions s.rules)
positions_in_range s w e =
    let n = positions-length s.rules in
    let l = rules-at_most_positions s.rules e in
    record {
      count_least = omega (arith, w.rules_least);
      count_most = omega (arith, w.classes_most);
      byte_classes = classes_bytes s.rules (rules_bytes s.tokens s.rules w.rules_allowed);
      rules_under = rules-below s.rules;
      rules_rising = never_falling s.rules;
      follows_under = subst (λ (k : ℕ). All (λ p. p.follow < 2 ^ k) (positions s.rules)) (sym n) (follows-below s.rules);
      first_under = subst (λ (k : ℕ). first_positions s.rules < 2 ^ k) (sym n) (first_below s.rules);
    }
