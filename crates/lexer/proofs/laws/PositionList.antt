-- A list of positions by place, and the sheet's own list: which rule the position at a place belongs to, and that its last flag,
-- its follow set and its byte class are those of that rule's regex.
use Rattle.std.specs.Prelude.{◌≡◌, refl, true, ◌&&◌, List, [], ◌∷◌, ◌++◌, ◌⊎◌, ◌↔◌, ℕ, suc, ◌+◌, ◌≤◌, ◌<◌, length, leb}
use Rattle.std.proofs.Common.{sym, ap, ap₂, ◌∙◌, subst, inl, inr, ⊎_elim, arith, add-zero, length-append, le-leb, leb-true}
use Rattle.basics.specs.Bits.{bit, ◌∈◌}
use Rattle.basics.proofs.laws.BitLaws.{∈_cases, ∈_left, ∈_right, ∈_zero}
use Rattle.basics.specs.Lists.{All}
use Rattle.basics.proofs.laws.Order.{compare_cases}
use Rattle.basics.proofs.laws.Truth.{and-true-first, and-true-second}
use Rattle.sheet.specs.Regex.{Regex, empty, class, concat, union, star, class_count}
use Rattle.sheet.specs.Sheet.{Rule}
use Rattle.lexer.specs.Words.{Word, RuleAt, first_rule, later_rule}
use Rattle.lexer.specs.Positions.{Position, first, last, follow, part_positions, positions_from, first_from}
use Rattle.lexer.specs.Walk.{has_byte}
use Rattle.lexer.proofs.laws.PositionSets.{Within}
use Rattle.lexer.proofs.laws.Chains.{Agrees, Spelled, word_chain}

-- In a list whose places count from i, the position at place j is p.
pub data PositionFrom : List Position → ℕ → ℕ → Position → Type 0 where
  first_place : {p : Position} {ps : List Position} {i : ℕ} → PositionFrom (p ∷ ps) i i p
  later_place : {p q : Position} {ps : List Position} {i j : ℕ} → PositionFrom ps (suc i) j p → PositionFrom (q ∷ ps) i j p

-- Places count from 0.
abbrev pub PositionAt : List Position → ℕ → Position → Type 0
PositionAt ps j p = PositionFrom ps 0 j p

pub place_within : {ps : List Position} {i j : ℕ} {p : Position} → PositionFrom ps i j p → Within i (length ps) j
place_within (first_place {ps = ps}) = omega arith
place_within (later_place t) = let h = place_within t in omega arith

place_first : {ps : List Position} {i j : ℕ} {p q : Position} → j ≤ i → PositionFrom (p ∷ ps) i j q → p ≡ q
place_first h first_place = refl
place_first h (later_place t) = let k = place_within t in absurd (omega arith)

-- Each place holds one position, and each place within the list holds one.
pub place_one : {ps : List Position} {i j : ℕ} {p q : Position} → PositionFrom ps i j p → PositionFrom ps i j q → p ≡ q
place_one first_place t = place_first (omega arith) t
place_one (later_place t) first_place = let h = place_within t in absurd (omega arith)
place_one (later_place t) (later_place u) = place_one t u

pub place_some : (ps : List Position) (i j : ℕ) → Within i (length ps) j → (p : Position) × PositionFrom ps i j p
place_some [] i j h = absurd (omega arith)
place_some (p ∷ ps) i j h = go (compare_cases i j) (λ k. place_some ps (suc i) j k)
  where
    go : (i < j) ⊎ ((i ≡ j) ⊎ (j < i)) → (Within (suc i) (length ps) j → (q : Position) × PositionFrom ps (suc i) j q)
        → (q : Position) × PositionFrom (p ∷ ps) i j q
    go (inl l) f = let t = f (omega arith) in (t.0, later_place t.1)
    go (inr (inl e)) f = (p, subst (λ (x : ℕ). PositionFrom (p ∷ ps) i x p) e first_place)
    go (inr (inr l)) f = absurd (omega arith)

-- What holds of the first place and of all later ones holds of every place.
pub by_place : {q : Position} {ps : List Position} {i j : ℕ} {p : Position} (C : ℕ → Position → Type 0) → C i q
    → ((k : ℕ) (x : Position) → PositionFrom ps (suc i) k x → C k x) → PositionFrom (q ∷ ps) i j p → C j p
by_place C c f first_place = c
by_place C c f (later_place {p = p} {j = j} t) = f j p t

-- What holds of all positions holds at every place, and the other way round.
pub all-at : {ps : List Position} {i j : ℕ} {p : Position} (Q : Position → Type 0) → All Q ps → PositionFrom ps i j p → Q p
all-at Q a first_place = a.0
all-at Q a (later_place t) = all-at Q a.1 t

pub all_places : (Q : Position → Type 0) (ps : List Position) (i : ℕ) → ((j : ℕ) (p : Position) → PositionFrom ps i j p → Q p) → All Q ps
all_places Q [] i f = tt
all_places Q (p ∷ ps) i f = (f i p first_place, all_places Q ps (suc i) (λ j q t. f j q (later_place t)))

-- Places of two lists, one after the other.
pub place_left : {l : List Position} {i j : ℕ} {p : Position} (m : List Position) → PositionFrom l i j p → PositionFrom (l ++ m) i j p
place_left m first_place = first_place
place_left m (later_place t) = later_place (place_left m t)

pub place_right : (l : List Position) {m : List Position} {i j : ℕ} {p : Position} → PositionFrom m (i + length l) j p
    → PositionFrom (l ++ m) i j p
place_right [] {m} {i} {j} {p} t = subst (λ (x : ℕ). PositionFrom m x j p) (add-zero i) t
place_right (q ∷ l) {m} {i} {j} {p} t =
    let e : i + suc (length l) ≡ suc i + length l = omega arith in
    later_place (place_right l (subst (λ (x : ℕ). PositionFrom m x j p) e t))

pub place_cases : (l m : List Position) {i j : ℕ} {p : Position} → PositionFrom (l ++ m) i j p
    → PositionFrom l i j p ⊎ PositionFrom m (i + length l) j p
place_cases [] m {i} {j} {p} t = inr (subst (λ (x : ℕ). PositionFrom m x j p) (sym (add-zero i)) t)
place_cases (q ∷ l) m {i} t =
    let e : suc i + length l ≡ i + suc (length l) = omega arith in
    by_place (λ k x. PositionFrom (q ∷ l) i k x ⊎ PositionFrom m (i + suc (length l)) k x)
    (inl first_place)
    (λ k x y. ⊎_elim (λ z. inl (later_place z)) (λ z. inr (subst (λ (n : ℕ). PositionFrom m n k x) e z)) (place_cases l m y))
    t

-- The positions of a part of a regex are as many as its classes.
pub part-length : (whole : Regex) (base k : ℕ) (r : Regex) (p : ℕ) → length (part_positions whole base k r p) ≡ class_count r
unfolding part_positions class_count
part-length whole base k empty p = refl
part-length whole base k (class low high) p = refl
part-length whole base k (concat r s) p =
    length-append (part_positions whole base k r p) (part_positions whole base k s (p + class_count r))
    ∙ ap₂ ◌+◌ (part-length whole base k r p) (part-length whole base k s (p + class_count r))
part-length whole base k (union r s) p =
    length-append (part_positions whole base k r p) (part_positions whole base k s (p + class_count r))
    ∙ ap₂ ◌+◌ (part-length whole base k r p) (part-length whole base k s (p + class_count r))
part-length whole base k (star r) p = part-length whole base k r p

-- A position at place j is rule k's, whose regex r has its positions from a base on.
pub record OwnedBy (r : Regex) (base k j : ℕ) (p : Position) : Type 0 where
  pub own_rule : p.rule ≡ k
  pub own_last : p.last ≡ bit (last r base) j
  pub own_follow : p.follow ≡ follow r base j

-- Of a part r of the regex `whole`, whose own positions start at p: the position at place j is x.
abbrev pub PartAt : Regex → ℕ → ℕ → Regex → ℕ → ℕ → Position → Type 0
PartAt whole base k r p j x = PositionFrom (part_positions whole base k r p) p j x

-- A part made of r and then s.
module _ (whole : Regex) (base k : ℕ) (r s : Regex) (p : ℕ) where
  part_second : {j : ℕ} {x : Position} → PartAt whole base k s (p + class_count r) j x
      → PositionFrom (part_positions whole base k r p ++ part_positions whole base k s (p + class_count r)) p j x
  part_second {j} {x} t =
      place_right (part_positions whole base k r p)
      (subst (λ (n : ℕ). PositionFrom (part_positions whole base k s (p + class_count r)) (p + n) j x) (sym (part-length whole base k r p)) t)

  pub part-cases : {j : ℕ} {x : Position}
      → PositionFrom (part_positions whole base k r p ++ part_positions whole base k s (p + class_count r)) p j x
      → PartAt whole base k r p j x ⊎ PartAt whole base k s (p + class_count r) j x
  part-cases {j} {x} t =
      let second = part_positions whole base k s (p + class_count r) in
      subst (λ (n : ℕ). PartAt whole base k r p j x ⊎ PositionFrom second (p + n) j x) (part-length whole base k r p)
      (place_cases (part_positions whole base k r p) second t)

pub no_place : {X : Type 0} {i j : ℕ} {p : Position} → PositionFrom [] i j p → X
no_place t = elim t [ ]

pub part_owned : (whole : Regex) (base k : ℕ) (r : Regex) (p : ℕ) {j : ℕ} {x : Position} → PartAt whole base k r p j x
    → OwnedBy whole base k j x
unfolding part_positions
part_owned whole base k empty p t = no_place t
part_owned whole base k (class low high) p t =
    by_place (λ j x. OwnedBy whole base k j x) (record { own_rule = refl; own_last = refl; own_follow = refl }) (λ j x y. no_place y) t
part_owned whole base k (concat r s) p t =
    ⊎_elim (part_owned whole base k r p) (part_owned whole base k s (p + class_count r)) (part-cases whole base k r s p t)
part_owned whole base k (union r s) p t =
    ⊎_elim (part_owned whole base k r p) (part_owned whole base k s (p + class_count r)) (part-cases whole base k r s p t)
part_owned whole base k (star r) p t = part_owned whole base k r p t

-- In a list of positions, the class at place j has the byte.
abbrev pub Takes : List Position → ℕ → ℕ → Type 0
Takes ps j b = (p : Position) × PositionAt ps j p × (has_byte p b ≡ true)

-- "one byte of the class, low and high included"
pub has_byte_right : (p : Position) (b : ℕ) → (has_byte p b ≡ true) ↔ ((p.low ≤ b) × (b ≤ p.high))
unfolding has_byte
has_byte_right p b = (
  λ e. (
    leb-true p.low b (and-true-first (leb p.low b) (leb b p.high) e),
    leb-true b p.high (and-true-second (leb p.low b) (leb b p.high) e),
  ),
  λ h. ap₂ ◌&&◌ (le-leb p.low b h.0) (le-leb b p.high h.1),
)

takes_right : (ps : List Position) (j : ℕ) (p : Position) → PositionAt ps j p → (b : ℕ) → Takes ps j b ↔ ((p.low ≤ b) × (b ≤ p.high))
takes_right ps j p t b = (
  λ h. (has_byte_right p b).0 (ap (λ (x : Position). has_byte x b) (place_one t h.1) ∙ h.2),
  λ h. (p, t, (has_byte_right p b).1 h),
)

-- Where a part's positions stand in a list, the list's classes are the part's.
pub part_agrees : (ps : List Position) (whole : Regex) (base k : ℕ) (r : Regex) (p : ℕ)
    → ((j : ℕ) (x : Position) → PartAt whole base k r p j x → PositionAt ps j x) → Agrees (Takes ps) r p
unfolding part_positions
part_agrees ps whole base k empty p f = tt
part_agrees ps whole base k (class low high) p f = λ b. takes_right ps p _ (f p _ first_place) b
part_agrees ps whole base k (concat r s) p f = (
  part_agrees ps whole base k r p (λ j x t. f j x (place_left (part_positions whole base k s (p + class_count r)) t)),
  part_agrees ps whole base k s (p + class_count r) (λ j x t. f j x (part_second whole base k r s p t)),
)
part_agrees ps whole base k (union r s) p f = (
  part_agrees ps whole base k r p (λ j x t. f j x (place_left (part_positions whole base k s (p + class_count r)) t)),
  part_agrees ps whole base k s (p + class_count r) (λ j x t. f j x (part_second whole base k r s p t)),
)
part_agrees ps whole base k (star r) p f = part_agrees ps whole base k r p f

-- A regex by itself: a text that is not empty is a word just where a chain of the regex's positions spells it.
pub word_chain_own : (r : Regex) (b : ℕ) (u : List ℕ) → Word r (b ∷ u) ↔ Spelled (Takes (part_positions r 0 0 r 0)) r 0 (b ∷ u)
word_chain_own r = word_chain (Takes (part_positions r 0 0 r 0)) r 0 (part_agrees (part_positions r 0 0 r 0) r 0 0 r 0 (λ j x t. t))

-- Of the rules from number k on, whose positions start at a base: rule n is r, and its positions start at c.
pub data RuleFrom : List Rule → ℕ → ℕ → ℕ → Rule → ℕ → Type 0 where
  this_rule : {r : Rule} {rs : List Rule} {k base : ℕ} → RuleFrom (r ∷ rs) k base k r base
  next_rule : {r s : Rule} {rs : List Rule} {k base n c : ℕ} → RuleFrom rs (suc k) (base + class_count s.regex) n r c
      → RuleFrom (s ∷ rs) k base n r c

pub rule_from : {rules : List Rule} {i : ℕ} {r : Rule} → RuleAt rules i r → (k base : ℕ) → (c : ℕ) × RuleFrom rules k base (k + i) r c
rule_from (first_rule {r = r} {rs = rs}) k base = (base, subst (λ (n : ℕ). RuleFrom (r ∷ rs) k base n r base) (sym (add-zero k)) this_rule)
rule_from (later_rule {r = r} {s = s} {rs = rs} {k = i} t) k base =
    let u = rule_from t (suc k) (base + class_count s.regex) in
    let e : suc k + i ≡ k + suc i = omega arith in
    (u.0, subst (λ (n : ℕ). RuleFrom (s ∷ rs) k base n r u.0) e (next_rule u.1))

pub rule_at : {rules : List Rule} {k base n : ℕ} {r : Rule} {c : ℕ} → RuleFrom rules k base n r c → (i : ℕ) × (n ≡ k + i) × RuleAt rules i r
rule_at this_rule = (0, omega arith, first_rule)
rule_at (next_rule t) = let u = rule_at t in (suc u.0, omega arith, later_rule u.2)

-- A rule's positions are among the sheet's.
pub rule_place : {rules : List Rule} {k base n : ℕ} {r : Rule} {c : ℕ} → RuleFrom rules k base n r c → (j : ℕ) (x : Position)
    → PartAt r.regex c n r.regex c j x → PositionFrom (positions_from rules k base) base j x
unfolding positions_from
rule_place (this_rule {r = r} {rs = rs} {k = k} {base = base}) j x t =
    place_left (positions_from rs (suc k) (base + class_count r.regex)) t
rule_place (next_rule {s = s} {rs = rs} {k = k} {base = base} u) j x t =
    place_right (part_positions s.regex base k s.regex base)
    (subst (λ (n : ℕ). PositionFrom (positions_from rs (suc k) (base + class_count s.regex)) (base + n) j x)
    (sym (part-length s.regex base k s.regex base)) (rule_place u j x t))

pub rule_owned : {rules : List Rule} {k base n : ℕ} {r : Rule} {c : ℕ} → RuleFrom rules k base n r c → (j : ℕ)
    → Within c (class_count r.regex) j
    → (x : Position) × PositionFrom (positions_from rules k base) base j x × OwnedBy r.regex c n j x
rule_owned {n = n} {r = r} {c = c} u j i =
    let t = place_some (part_positions r.regex c n r.regex c) c j
    (subst (λ (m : ℕ). Within c m j) (sym (part-length r.regex c n r.regex c)) i) in
    (t.0, rule_place u j t.0 t.1, part_owned r.regex c n r.regex c t.1)

-- Where a match of any rule may begin, a match of some rule may, and the other way round.
pub first-some : (rules : List Rule) (k base j : ℕ) → j ∈ first_from rules base
    → (n : ℕ) × (r : Rule) × (c : ℕ) × RuleFrom rules k base n r c × (j ∈ first r.regex c)
unfolding first_from
first-some [] k base j h = ∈_zero j h
first-some (r ∷ rs) k base j h =
    ⊎_elim
    (λ x. (k, r, base, this_rule, x))
    (λ x.
    let t = first-some rs (suc k) (base + class_count r.regex) j x in
    (t.0, t.1, t.2, next_rule t.3, t.4))
    (∈_cases (first r.regex base) (first_from rs (base + class_count r.regex)) j h)

pub first-all : {rules : List Rule} {k base n : ℕ} {r : Rule} {c : ℕ} → RuleFrom rules k base n r c → (j : ℕ)
    → j ∈ first r.regex c → j ∈ first_from rules base
unfolding first_from
first-all (this_rule {r = r} {base = base}) j h = ∈_left (first r.regex base) _ j h
first-all (next_rule {s = s} {base = base} u) j h = ∈_right (first s.regex base) _ j (first-all u j h)
