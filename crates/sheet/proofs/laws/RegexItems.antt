-- The items of a regex in prefix order, and that items make regexes which have just these items. Bytes are not named here.
use Rattle.std.specs.Prelude.{◌≡◌, refl, ℕ, suc, ◌+◌, length, get_or}
use Rattle.std.proofs.Common.{sym, ap, ◌∙◌, arith}
use mathlib.Core.List.{List, [], ◌∷◌, ◌++◌, append_assoc, append-nil, flat_map}
use Rattle.basics.specs.Lists.{sum}
use Rattle.basics.proofs.laws.Members.{sum-append}
use Rattle.sheet.specs.Regex.{Regex, empty, class, concat, union, star, class_count}
use Rattle.sheet.specs.Items.{RegexItem, empty_item, class_item, concat_item, union_item, star_item, regex_parts}
use Rattle.sheet.specs.Items.{item_classes, regex_before, regexes}
use Rattle.sheet.specs.laws.RegexItems.{regex_items_of}

-- ---- what the items of a regex count

pub items_classes : (r : Regex) → sum item_classes (regex_items_of r) ≡ class_count r
unfolding regex_items_of class_count item_classes
items_classes empty = refl
items_classes (class low high) = refl
items_classes (concat r s) =
    omega (arith, sum-append item_classes (regex_items_of r) (regex_items_of s), items_classes r, items_classes s)
items_classes (union r s) =
    omega (arith, sum-append item_classes (regex_items_of r) (regex_items_of s), items_classes r, items_classes s)
items_classes (star r) = omega (arith, items_classes r)

-- ---- items to trees and back

-- The trees of a regex's items, with other items after them: that regex, then the others' trees.
pub regexes_items : (r : Regex) (is : List RegexItem) → regexes (regex_items_of r ++ is) ≡ r ∷ regexes is
unfolding regex_items_of regexes regex_before
regexes_items empty is = refl
regexes_items (class low high) is = refl
regexes_items (concat r s) is =
    rw (append_assoc (regex_items_of r) (regex_items_of s) is, regexes_items r (regex_items_of s ++ is), regexes_items s is)
regexes_items (union r s) is =
    rw (append_assoc (regex_items_of r) (regex_items_of s) is, regexes_items r (regex_items_of s ++ is), regexes_items s is)
regexes_items (star r) is = rw (regexes_items r is)

-- The regexes that items make: as many as were due, and with just these items.
pub record MadeRegexes (due : ℕ) (is : List RegexItem) (rs : List Regex) : Type 0 where
  pub many : length rs ≡ due
  pub same_items : flat_map regex_items_of rs ≡ is

-- An item before the regexes that follow it: one without parts, and one with two.
leaf_made : (i : RegexItem) (r : Regex) (due : ℕ) (is : List RegexItem) (rs : List Regex) → regex_items_of r ≡ i ∷ []
    → MadeRegexes (0 + due) is rs → MadeRegexes (suc due) (i ∷ is) (r ∷ rs)
unfolding flat_map
leaf_made i r due is rs items m = record {
  many = omega (arith, m.many);
  same_items = ap (λ l. l ++ flat_map regex_items_of rs) items ∙ ap (λ l. i ∷ l) m.same_items;
}

two_made : (i : RegexItem) (make : Regex → Regex → Regex) (due : ℕ) (is : List RegexItem)
    → ((r s : Regex) → regex_items_of (make r s) ≡ i ∷ (regex_items_of r ++ regex_items_of s))
    → ((r s : Regex) (rs : List Regex) → regex_before i (r ∷ s ∷ rs) ≡ make r s ∷ rs)
    → (rs : List Regex) → MadeRegexes (2 + due) is rs → MadeRegexes (suc due) (i ∷ is) (regex_before i rs)
unfolding flat_map
two_made i make due is items before [] m = absurd (omega (arith, m.many))
two_made i make due is items before (r ∷ []) m = absurd (omega (arith, m.many))
two_made i make due is items before (r ∷ s ∷ rs) m = rw (before r s rs) (record {
  many = omega (arith, m.many);
  same_items = ap (λ l. l ++ flat_map regex_items_of rs) (items r s)
      ∙ ap (λ l. i ∷ l) (append_assoc (regex_items_of r) (regex_items_of s) (flat_map regex_items_of rs) ∙ m.same_items);
})

pub item_made : (i : RegexItem) (due : ℕ) (is : List RegexItem) (rs : List Regex) → MadeRegexes (regex_parts i + due) is rs
    → MadeRegexes (suc due) (i ∷ is) (regex_before i rs)
unfolding regex_parts regex_before regex_items_of flat_map
item_made empty_item due is rs m = leaf_made empty_item empty due is rs refl m
item_made (class_item low high) due is rs m = leaf_made (class_item low high) (class low high) due is rs refl m
item_made concat_item due is rs m = two_made concat_item concat due is (λ r s. refl) (λ r s l. refl) rs m
item_made union_item due is rs m = two_made union_item union due is (λ r s. refl) (λ r s l. refl) rs m
item_made star_item due is [] m = absurd (omega (arith, m.many))
item_made star_item due is (r ∷ rs) m = record { many = omega (arith, m.many); same_items = ap (λ l. star_item ∷ l) m.same_items }

-- Where one was due, they are the items of that one.
pub one_regex : (is : List RegexItem) (rs : List Regex) → MadeRegexes 1 is rs → regex_items_of (get_or rs 0 empty) ≡ is
unfolding flat_map
one_regex is [] m = absurd (omega (arith, m.many))
one_regex is (r ∷ []) m = sym (append-nil (regex_items_of r)) ∙ m.same_items
one_regex is (r ∷ s ∷ rs) m = absurd (omega (arith, m.many))
