-- The loop that looks for a rule's end: the regexes that are due, one item of them, and the end. Where the columns come from is not asked
-- here.
use mathlib.Core.Path.{◌≡◌, refl, sym, ap, ap₂, ◌∙◌, subst}
use mathlib.Core.Bool.{Bool, true, false, ◌&&◌}
use mathlib.Core.List.{List, [], ◌∷◌, ◌++◌, append-nil, flat_map}
use Prim.Native.Nat.{ℕ, ◌+◌, ◌-◌, ◌≤◌, ◌<◌}
use native.Mathlib.Omega.{arith}
use native.Mathlib.Numerals.{add-one}
use lib.Dec.{eqb}
use lib.ListN.{length, get_or, length-append}
use Rattle.basics.specs.Lists.{sum}
use Rattle.sheet.specs.Regex.{Regex, empty, class, concat, union, star}
use Rattle.sheet.specs.Items.{RegexItem, empty_item, class_item, concat_item, union_item, star_item, item_classes, regex_parts}
use Rattle.sheet.proofs.laws.ListLaws.{flat_map-append}
use Rattle.sheet.specs.laws.RegexItems.{regex_items_of, regex_tag}
use Rattle.columns.specs.Tags.{parts_of}
use Rattle.columns.proofs.laws.ColumnLaws.{tag_parts}
use Rattle.lexer.specs.RuleOrder.{is_word}
use Rattle.rule_sorter.specs.Ends.{classes_of, word_item, BytesAt, ItemsAt, rule_end}

-- ---- an item and the parts of its regex

abbrev own : Regex → RegexItem
own empty = empty_item
own (class low high) = class_item low high
own (concat r s) = concat_item
own (union r s) = union_item
own (star r) = star_item

abbrev parts : Regex → List Regex
parts empty = []
parts (class low high) = []
parts (concat r s) = r ∷ s ∷ []
parts (union r s) = r ∷ s ∷ []
parts (star r) = r ∷ []

abbrev all_words : List Regex → Bool
all_words [] = true
all_words (r ∷ rs) = is_word r && all_words rs

and_true : (a : Bool) → a ≡ (a && true)
and_true true = refl
and_true false = refl

and_assoc : (a b c : Bool) → ((a && b) && c) ≡ (a && (b && c))
and_assoc true b c = refl
and_assoc false b c = refl

all_words-append : (k l : List Regex) → all_words (k ++ l) ≡ (all_words k && all_words l)
all_words-append [] l = refl
all_words-append (r ∷ k) l =
    ap (λ (b : Bool). is_word r && b) (all_words-append k l) ∙ sym (and_assoc (is_word r) (all_words k) (all_words l))

own_items : (r : Regex) → regex_items_of r ≡ own r ∷ flat_map regex_items_of (parts r)
unfolding regex_items_of flat_map
own_items empty = refl
own_items (class low high) = refl
own_items (concat r s) =
    ap (λ (l : List RegexItem). concat_item ∷ (regex_items_of r ++ l)) (sym (append-nil (regex_items_of s)))
own_items (union r s) =
    ap (λ (l : List RegexItem). union_item ∷ (regex_items_of r ++ l)) (sym (append-nil (regex_items_of s)))
own_items (star r) = ap (λ (l : List RegexItem). star_item ∷ l) (sym (append-nil (regex_items_of r)))

parts-counted : (r : Regex) → length (parts r) ≡ regex_parts (own r)
unfolding regex_parts
parts-counted empty = refl
parts-counted (class low high) = refl
parts-counted (concat r s) = refl
parts-counted (union r s) = refl
parts-counted (star r) = refl

own-parts : (r : Regex) → length (parts r) ≡ parts_of (regex_tag (own r))
own-parts r = parts-counted r ∙ sym (tag_parts (own r))

own_classes : (r : Regex) → item_classes (own r) ≡ classes_of (regex_tag (own r))
unfolding classes_of item_classes regex_tag
own_classes empty = refl
own_classes (class low high) = refl
own_classes (concat r s) = refl
own_classes (union r s) = refl
own_classes (star r) = refl

own_word : (lows highs : List ℕ) (c : ℕ) (r : Regex) → BytesAt lows highs c (own r)
    → is_word r ≡ (word_item (regex_tag (own r)) (get_or lows c 0) (get_or highs c 0) && all_words (parts r))
unfolding is_word word_item regex_tag
own_word lows highs c empty b = refl
own_word lows highs c (class low high) b = ap₂ eqb (sym b.1) (sym b.2) ∙ and_true (eqb (get_or lows c 0) (get_or highs c 0))
own_word lows highs c (concat r s) b = ap (λ (t : Bool). is_word r && t) (and_true (is_word s))
own_word lows highs c (union r s) b = refl
own_word lows highs c (star r) b = refl

class_most : (lows highs : List ℕ) (c : ℕ) (r : Regex) → BytesAt lows highs c (own r) → c ≤ 64 → c + item_classes (own r) ≤ 64
unfolding item_classes
class_most lows highs c empty b h = omega arith
class_most lows highs c (class low high) b h = omega arith
class_most lows highs c (concat r s) b h = omega arith
class_most lows highs c (union r s) b h = omega arith
class_most lows highs c (star r) b h = omega arith

parts_most : (r : Regex) → length (parts r) ≤ 2
parts_most empty = omega arith
parts_most (class low high) = omega arith
parts_most (concat r s) = omega arith
parts_most (union r s) = omega arith
parts_most (star r) = omega arith

-- The first item of regexes one after the other, and the items after it.
first_item : (q : Regex) (rest : List Regex) → flat_map regex_items_of (q ∷ rest) ≡ own q ∷ flat_map regex_items_of (parts q ++ rest)
unfolding flat_map
first_item q rest =
    ap (λ (l : List RegexItem). l ++ flat_map regex_items_of rest) (own_items q)
    ∙ ap (λ (l : List RegexItem). own q ∷ l) (sym (flat_map-append regex_items_of (parts q) rest))

-- ---- the regexes that are due

-- The items of the regexes that are due stand from item i and class c on, and where they end the rule ends.
pub record Due (tag low high : List ℕ) (r : Regex) (item class : ℕ) (word : Bool) (i c due : ℕ) : Type 0 where
  rs : List Regex
  many : length rs ≡ due
  here : ItemsAt tag low high i c (flat_map regex_items_of rs)
  word_left : (word && all_words rs) ≡ is_word r
  items_left : i + length (flat_map regex_items_of rs) ≡ item + length (regex_items_of r)
  classes_left : c + sum item_classes (flat_map regex_items_of rs) ≡ class + sum item_classes (regex_items_of r)

-- What a turn finds, and what is due after it.
pub record Turn (tag low high : List ℕ) (r : Regex) (item class : ℕ) (word : Bool) (i c due : ℕ) : Type 0 where
  pub below : i < 256
  pub parts_few : parts_of (get_or tag i 0) ≤ 2
  pub class_room : c ≤ 64 → c + classes_of (get_or tag i 0) ≤ 64
  pub after : Due tag low high r item class (word && word_item (get_or tag i 0) (get_or low c 0) (get_or high c 0)) (i + 1)
      (c + classes_of (get_or tag i 0)) (due - 1 + parts_of (get_or tag i 0))

module _ {tag low high : List ℕ} {r : Regex} {item class : ℕ} where
  pub due_start : ItemsAt tag low high item class (regex_items_of r) → Due tag low high r item class true item class 1
  unfolding flat_map is_word
  due_start h =
      let e : regex_items_of r ≡ regex_items_of r ++ [] = sym (append-nil (regex_items_of r)) in
      record {
        rs = r ∷ [];
        many = refl;
        here = subst (ItemsAt tag low high item class) e h;
        word_left = sym (and_true (is_word r));
        items_left = ap (λ (l : List RegexItem). item + length l) (sym e);
        classes_left = ap (λ (l : List RegexItem). class + sum item_classes l) (sym e);
      }

  module _ {word : Bool} {i c due : ℕ} where
    -- The first of the regexes due is q: its item is taken off, and its parts are due in its place.
    turn_of : (q : Regex) (rest : List Regex) → length (q ∷ rest) ≡ due
        → ItemsAt tag low high i c (own q ∷ flat_map regex_items_of (parts q ++ rest))
        → (word && all_words (q ∷ rest)) ≡ is_word r
        → i + length (own q ∷ flat_map regex_items_of (parts q ++ rest)) ≡ item + length (regex_items_of r)
        → c + sum item_classes (own q ∷ flat_map regex_items_of (parts q ++ rest)) ≡ class + sum item_classes (regex_items_of r)
        → Turn tag low high r item class word i c due
    turn_of q rest n h w e f =
        let v = word_item (regex_tag (own q)) (get_or low c 0) (get_or high c 0) in
        let p = all_words (parts q) in
        let x = all_words rest in
        record {
          below = h.0;
          parts_few = rw (h.1, ← own-parts q) (parts_most q);
          class_room = λ k. rw (h.1, ← own_classes q) (class_most low high c q h.2 k);
          after = rw (h.1, add-one i, ← own_classes q, ← own-parts q) (record {
            rs = parts q ++ rest;
            many = omega (arith, n, length-append (parts q) rest);
            here = h.3;
            word_left =
                ap (λ (t : Bool). (word && v) && t) (all_words-append (parts q) rest) ∙ and_assoc word v (p && x)
                ∙ ap (λ (t : Bool). word && t)
                (sym (and_assoc v p x) ∙ ap (λ (t : Bool). t && x) (sym (own_word low high c q h.2)))
                ∙ w;
            items_left = omega (arith, e);
            classes_left = omega (arith, f);
          });
        }

    pub due_turn : 0 < due → Due tag low high r item class word i c due → Turn tag low high r item class word i c due
    due_turn l d = go d.rs d.many d.here d.word_left d.items_left d.classes_left
      where
        go : (rs : List Regex) → length rs ≡ due → ItemsAt tag low high i c (flat_map regex_items_of rs)
            → (word && all_words rs) ≡ is_word r
            → i + length (flat_map regex_items_of rs) ≡ item + length (regex_items_of r)
            → c + sum item_classes (flat_map regex_items_of rs) ≡ class + sum item_classes (regex_items_of r)
            → Turn tag low high r item class word i c due
        go [] n h w e f = absurd (omega arith)
        go (q ∷ rest) n h w e f =
            let s = first_item q rest in
            turn_of q rest n (rw s at h) w (rw s at e) (rw s at f)

    -- A class stands within the columns.
    pub class_below : Turn tag low high r item class word i c due → c ≤ 64 → get_or tag i 0 ≡ 1 → c < 64
    unfolding classes_of
    class_below t h e = omega (arith, t.class_room h, ap classes_of e)

    pub due_end : due ≤ 0 → Due tag low high r item class word i c due → record { word = word; item = i; class = c } ≡ rule_end r item class
    unfolding rule_end flat_map
    due_end l d = go d.rs d.many d.word_left d.items_left d.classes_left
      where
        go : (rs : List Regex) → length rs ≡ due → (word && all_words rs) ≡ is_word r
            → i + length (flat_map regex_items_of rs) ≡ item + length (regex_items_of r)
            → c + sum item_classes (flat_map regex_items_of rs) ≡ class + sum item_classes (regex_items_of r)
            → record { word = word; item = i; class = c } ≡ rule_end r item class
        go [] n w e f =
            let x : word ≡ is_word r = and_true word ∙ w in
            let y : i ≡ item + length (regex_items_of r) = omega (arith, e) in
            let z : c ≡ class + sum item_classes (regex_items_of r) = omega (arith, f) in
            cc (x, y, z)
        go (q ∷ rest) n w e f = absurd (omega arith)
