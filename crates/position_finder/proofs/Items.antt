-- The items of several regexes, one after the other: the regexes that they make, that each item finds its parts after it, and what a
-- sweep over them may ask of its stack. What is kept of a regex on the stack is not spoken of here.
use mathlib.Core.Path.{◌≡◌, refl, sym, ap, ◌∙◌, subst}
use mathlib.Core.List.{List, [], ◌∷◌, ◌++◌, append_assoc, map, flat_map}
use Prim.Native.Nat.{ℕ, zero, suc, ◌+◌, ◌-◌, ◌≤◌, ◌<◌}
use native.Mathlib.Omega.{arith}
use lib.ListN.{length, take, drop, get_or, length-drop}
use lib.Seq.{drop-cons, get_or-take}
use Rattle.basics.specs.Lists.{sum}
use Rattle.basics.proofs.laws.Members.{sum-append}
use Rattle.sheet.specs.Regex.{Regex, empty, class, concat, union, star, class_count}
use Rattle.sheet.specs.Items.{RegexItem, empty_item, class_item, concat_item, union_item, star_item, regex_parts, item_classes}
use Rattle.sheet.specs.Items.{regex_before, regexes}
use Rattle.sheet.specs.laws.RegexItems.{regex_items_of, regex_tag}
use Rattle.sheet.proofs.laws.RegexItems.{items_classes, regexes_items}
use Rattle.columns.specs.Tags.{parts_of}
use Rattle.columns.proofs.laws.ColumnLaws.{tag_parts}
use Rattle.position_finder.specs.Stacks.{TagsHeld}

pub regexes-all : (rs : List Regex) → regexes (flat_map regex_items_of rs) ≡ rs
unfolding flat_map regexes
regexes-all [] = refl
regexes-all (r ∷ rs) = regexes_items r (flat_map regex_items_of rs) ∙ ap (λ (l : List Regex). r ∷ l) (regexes-all rs)

pub classes-all : (rs : List Regex) → sum item_classes (flat_map regex_items_of rs) ≡ sum class_count rs
unfolding flat_map
classes-all [] = refl
classes-all (r ∷ rs) =
    omega (arith, sum-append item_classes (regex_items_of r) (flat_map regex_items_of rs), items_classes r, classes-all rs)

-- Each item has its parts after it.
abbrev pub Enough : List RegexItem → Type 0
Enough [] = Unit
Enough (i ∷ is) = (regex_parts i ≤ length (regexes is)) × Enough is

-- An item of two parts before them.
enough_both : (r s : Regex) (is : List RegexItem) → Enough (regex_items_of r ++ (regex_items_of s ++ is))
    → (2 ≤ length (regexes ((regex_items_of r ++ regex_items_of s) ++ is))) × Enough ((regex_items_of r ++ regex_items_of s) ++ is)
enough_both r s is h =
    rw (append_assoc (regex_items_of r) (regex_items_of s) is)
    (rw (regexes_items r (regex_items_of s ++ is), regexes_items s is) (omega arith), h)

enough_regex : (r : Regex) (is : List RegexItem) → Enough is → Enough (regex_items_of r ++ is)
unfolding regex_items_of regex_parts
enough_regex empty is h = (omega arith, h)
enough_regex (class low high) is h = (omega arith, h)
enough_regex (concat r s) is h = enough_both r s is (enough_regex r (regex_items_of s ++ is) (enough_regex s is h))
enough_regex (union r s) is h = enough_both r s is (enough_regex r (regex_items_of s ++ is) (enough_regex s is h))
enough_regex (star r) is h = (rw (regexes_items r is) (omega arith), enough_regex r is h)

enough_all : (rs : List Regex) → Enough (flat_map regex_items_of rs)
unfolding flat_map
enough_all [] = tt
enough_all (r ∷ rs) = enough_regex r (flat_map regex_items_of rs) (enough_all rs)

enough_drop : (n : ℕ) (is : List RegexItem) → Enough is → Enough (drop n is)
enough_drop zero is h = h
enough_drop (suc n) [] h = tt
enough_drop (suc n) (i ∷ is) h = enough_drop n is h.1

-- No more regexes than items.
before_short : (i : RegexItem) (rs : List Regex) → length (regex_before i rs) ≤ suc (length rs)
unfolding regex_before
before_short empty_item rs = omega arith
before_short (class_item low high) rs = omega arith
before_short concat_item [] = omega arith
before_short concat_item (r ∷ []) = omega arith
before_short concat_item (r ∷ s ∷ rs) = omega arith
before_short union_item [] = omega arith
before_short union_item (r ∷ []) = omega arith
before_short union_item (r ∷ s ∷ rs) = omega arith
before_short star_item [] = omega arith
before_short star_item (r ∷ rs) = omega arith

regexes_short : (is : List RegexItem) → length (regexes is) ≤ length is
unfolding regexes
regexes_short [] = omega arith
regexes_short (i ∷ is) = omega (arith, before_short i (regexes is), regexes_short is)

-- ---- the item at a place

get_or_map : {A B : Type 0} (f : A → B) (l : List A) (n : ℕ) (d : A) → get_or (map f l) n (f d) ≡ f (get_or l n d)
get_or_map f [] n d = refl
get_or_map f (a ∷ l) zero d = refl
get_or_map f (a ∷ l) (suc n) d = get_or_map f l n d

sum-take : (is : List RegexItem) (n : ℕ) (d : RegexItem) → n < length is
    → sum item_classes (take (suc n) is) ≡ sum item_classes (take n is) + item_classes (get_or is n d)
sum-take [] n d h = absurd (omega arith)
sum-take (i ∷ is) zero d h = omega arith
sum-take (i ∷ is) (suc n) d h = omega (arith, sum-take is n d (omega arith))

-- The item before place `at`, where the tags are those of the items.
pub record ItemBefore (is : List RegexItem) (tags : List ℕ) (at : ℕ) (i : RegexItem) : Type 0 where
  pub made : regexes (drop (at - 1) is) ≡ regex_before i (regexes (drop at is))
  pub tag : get_or tags (at - 1) 0 ≡ regex_tag i
  pub parts : regex_parts i ≤ length (regexes (drop at is))
  pub classes : sum item_classes (take at is) ≡ sum item_classes (take (at - 1) is) + item_classes i

pub item_before : (rs : List Regex) (tags : List ℕ) (items at : ℕ) → TagsHeld tags items rs → 0 < at → at ≤ items
    → (i : RegexItem) × ItemBefore (flat_map regex_items_of rs) tags at i
unfolding regexes regex_tag
item_before rs tags items at h l m =
    let is = flat_map regex_items_of rs in
    let n = at - 1 in
    let e : suc n ≡ at = omega arith in
    let b : n < length is = omega (arith, h.nodes) in
    let i = get_or is n empty_item in
    let c : drop n is ≡ i ∷ drop at is = drop-cons is n empty_item b ∙ ap (λ (k : ℕ). i ∷ drop k is) e in (
      i,
      record {
        made = ap regexes c;
        tag = sym (get_or-take items tags n 0 (omega arith)) ∙ ap (λ (t : List ℕ). get_or t n 0) h.tags_held
            ∙ get_or_map regex_tag is n empty_item;
        parts = (subst (λ (l : List RegexItem). Enough l) c (enough_drop n is (enough_all rs))).0;
        classes = ap (λ (k : ℕ). sum item_classes (take k is)) (sym e) ∙ sum-take is n empty_item b;
      },
    )

-- ---- the top of the stack

-- What a turn may ask of the top of a stack, which has one entry for each regex made so far.
pub record Top (tags : List ℕ) (at top : ℕ) : Type 0 where
  pub least : 1 ≤ top
  pub most : top ≤ 256
  pub parts_most : parts_of (get_or tags (at - 1) 0) ≤ top

pub turn-top : (tags : List ℕ) (items : ℕ) (rs : List Regex) (at top : ℕ) → TagsHeld tags items rs → 0 < at → at ≤ items
    → top ≡ 1 + length (regexes (drop at (flat_map regex_items_of rs))) → Top tags at top
turn-top tags items rs at top h l m e =
    let is = flat_map regex_items_of rs in
    let i = item_before rs tags items at h l m in
    record {
      least = omega arith;
      most = omega (arith, e, regexes_short (drop at is), length-drop at is, h.nodes, h.nodes_fit);
      parts_most = omega (arith, e, ap parts_of i.1.tag, tag_parts i.0, i.1.parts);
    }
