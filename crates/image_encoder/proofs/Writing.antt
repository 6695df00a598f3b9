-- What one write leaves, what a loop of writes leaves, and the parts of an image that these make.
use mathlib.Core.Path.{◌≡◌, sym, ap, subst, ◌∙◌}
use mathlib.Core.Bool.{Bool}
use mathlib.Core.List.{List, [], ◌∷◌, map}
use Prim.Native.Nat.{ℕ, ◌+◌, ◌≤◌}
use native.Mathlib.Numerals.{add-one}
use native.Mathlib.Omega.{arith}
use lib.Dec.{eqb}
use lib.ListN.{get_or, length, take, length-map}
use Rattle.std.specs.Prelude.{Some, None}
use Rattle.basics.specs.Bits.{bit}
use Rattle.basics.specs.Meeting.{number_of}
use Rattle.number.specs.Number.{encode, used_at}
use Rattle.number.proofs.laws.Splice.{used_at-some, used_at_fits}
use Rattle.production_finder.specs.declared.Tail.{Tail}
use Rattle.columns.specs.HeldPositions.{held_position}
use Rattle.columns.specs.declared.PositionColumns.{PositionColumns}
use Rattle.image.specs.Image.{flag, just}
use Rattle.image.proofs.laws.FormatParts.{tail_is}
use Rattle.image.specs.Numbering.{renumbered}
use Rattle.basics.proofs.laws.Members.{get_or-map-inside}
use Rattle.node_numbering.specs.laws.Below.{concat_below}
use Rattle.node_numbering.proofs.laws.Below.{concat_below_list}
use Rattle.node_numbering.specs.laws.RuleTails.{rule_part}
use Rattle.node_numbering.specs.declared.Grammar.{Grammar}
use Rattle.image_encoder.specs.laws.Emitted.{Emitted}
use Rattle.image_encoder.proofs.laws.Emitted.{emitted_none, emitted_append, emitted_same}
use Rattle.image_encoder.specs.Parts.{skip_number, rules_part, position_part, positions_part, production_part}

-- ---- one number

pub used-width : (a : List ℕ) (i n u : ℕ) → used_at a i n ≡ Some u → u ≡ length (encode n)
used-width a i n u e = let same : Some u ≡ Some (length (encode n)) = sym e ∙ used_at_fits a i n (used_at-some a i n e) in cc

pub same_number : {a b : List ℕ} {i j m n : ℕ} → m ≡ n → Emitted a b i j (m ∷ []) → Emitted a b i j (n ∷ [])
same_number e x = emitted_same (ap (λ (k : ℕ). k ∷ []) e) x

-- ---- a loop

pub nothing_yet : (d : List ℕ) (at : ℕ) (f : ℕ → List ℕ) → Emitted d d at at (concat_below f 0)
unfolding concat_below
nothing_yet d at f = emitted_none d at

pub one_more : {a b c : List ℕ} {at n m : ℕ} (f : ℕ → List ℕ) (i : ℕ) → Emitted a b at n (concat_below f i) → Emitted b c n m (f i)
    → Emitted a c at m (concat_below f (i + 1))
one_more f i so_far one = rw add-one (unfold concat_below in emitted_append so_far one)

pub all_done : {a b : List ℕ} {at n : ℕ} (f : ℕ → List ℕ) (i count : ℕ) → i ≤ count → count ≤ i → Emitted a b at n (concat_below f i)
    → Emitted a b at n (concat_below f count)
all_done {a} {b} {at} {n} f i count l m e =
    let same : i ≡ count = omega arith in
    subst (λ (k : ℕ). Emitted a b at n (concat_below f k)) same e

-- ---- the rules

pub skip_emitted : {a b : List ℕ} {at n : ℕ} (g : Grammar) (i : ℕ) → Emitted a b at n (flag (eqb (get_or g.action i 0) 0) ∷ [])
    → Emitted a b at n (skip_number g i)
unfolding skip_number
skip_emitted g i e = e

pub rules_emitted : {a b c d : List ℕ} {at v n m : ℕ} (g : Grammar) → Emitted a b at v (1 ∷ []) → Emitted b c v n (g.rules ∷ [])
    → Emitted c d n m (concat_below (skip_number g) g.rules) → Emitted a d at m (rules_part g)
unfolding rules_part
rules_emitted g x y z = emitted_append x (emitted_append y z)

-- ---- the positions

pub position_emitted : {a b : List ℕ} {at n : ℕ} (p : PositionColumns) (i : ℕ) (last : Bool) → last ≡ bit p.last i
    → Emitted a b at n (get_or p.low i 0 ∷ get_or p.high i 0 ∷ get_or p.rule i 0 ∷ flag last ∷ get_or p.follow i 0 ∷ [])
    → Emitted a b at n (position_part p i)
unfolding position_part held_position
position_emitted {a} {b} {at} {n} p i last e x =
    subst (λ (l : Bool). Emitted a b at n (get_or p.low i 0 ∷ get_or p.high i 0 ∷ get_or p.rule i 0 ∷ flag l ∷ get_or
    p.follow i 0 ∷ [])) e x

pub positions_emitted : {a b c d : List ℕ} {at v n m : ℕ} (p : PositionColumns) → Emitted a b at v (p.count ∷ [])
    → Emitted b c v n (concat_below (position_part p) p.count) → Emitted c d n m (p.first ∷ []) → Emitted a d at m (positions_part p)
unfolding positions_part
positions_emitted p x y z = emitted_append x (emitted_append y z)

-- ---- a production

pub no_production : (d : List ℕ) (at r : ℕ) (all : List ℕ) → Emitted d d at at (production_part all r None)
unfolding production_part rule_part
no_production d at r all = emitted_none d at

-- The numbers of the members of a tail.
abbrev pub member_numbers : List ℕ → List ℕ → ℕ → List ℕ
member_numbers all tail i = number_of all (get_or tail i 0) ∷ []

members_are : (all tail : List ℕ) → concat_below (member_numbers all tail) (length tail) ≡ map (number_of all) tail
members_are all tail =
    let numbers = map (number_of all) tail in
    let same : length numbers ≡ length tail = length-map tail (number_of all) in
    ap (concat_below (member_numbers all tail)) (sym same)
    ∙ concat_below_list (member_numbers all tail) just numbers 0
    (λ k l. ap (λ (n : ℕ). n ∷ []) (sym (get_or-map-inside (number_of all) tail k 0 0 (omega arith))))
    ∙ tail_is numbers

pub production_emitted : {a b c d : List ℕ} {at v n m : ℕ} (r : ℕ) (all : List ℕ) (t : Tail)
    → Emitted a b at v (r ∷ []) → Emitted b c v n (length (take t.count t.members) ∷ [])
    → Emitted c d n m (concat_below (member_numbers all (take t.count t.members)) (length (take t.count t.members)))
    → Emitted a d at m (production_part all r (Some t))
unfolding production_part rule_part renumbered
production_emitted {a} {b} {c} {d} {at} {v} {n} {m} r all t x y z =
    let tail = take t.count t.members in
    emitted_append x (emitted_append (subst (λ (k : ℕ). Emitted b c v n (k ∷ [])) (sym (length-map tail (number_of all))) y)
    (emitted_same (members_are all tail) z))
