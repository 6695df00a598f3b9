-- The flags of question 7: one turn of their sweep, the loop, and the search for the first flag that is up. Positions have no part in
-- it; the stack and its bounds are those of `Stacks` and `Items`.
use mathlib.Core.Path.{◌≡◌, refl, sym, ap, ap₂, ◌∙◌, subst}
use mathlib.Core.Bool.{Bool, true, false, ◌&&◌, ◌||◌, cond}
use mathlib.Core.List.{List, [], ◌∷◌, map, flat_map}
use mathlib.Core.Option.{none, some}
use Prim.Native.Nat.{ℕ, ◌+◌, ◌-◌, ◌≤◌, ◌<◌}
use native.Mathlib.Omega.{arith}
use native.Mathlib.Numerals.{add-one}
use lib.ListN.{length, length-map, drop, get_or, set, replicate, drop_of_length-le}
use lib.Seq.{drop-cons}
use Rattle.sheet.specs.Regex.{Regex}
use Rattle.sheet.specs.Items.{RegexItem, empty_item, class_item, concat_item, union_item, star_item}
use Rattle.sheet.specs.Items.{regex_parts, regex_before, regexes}
use Rattle.sheet.specs.laws.RegexItems.{regex_items_of, regex_tag}
use Rattle.lexer.specs.Positions.{nullable}
use Rattle.columns.specs.Tags.{parts_of}
use Rattle.position_finder.specs.Stacks.{TagsHeld, Stacked, flag_of, first_up}
use Rattle.position_finder.proofs.Items.{regexes-all, item_before, Top, turn-top}
use Rattle.position_finder.proofs.Stacks.{Piled, piled_none, piled_more, top_member, next_member, stacked-at}

-- ---- a turn of the sweep

-- What a tag makes of the stack.
abbrev After : List Regex → List Bool → ℕ → ℕ → Type 0
After rs flags top tag =
    Piled false (set flags (top + 1 - parts_of tag) (flag_of tag (get_or flags top false) (get_or flags (top - 1) false))) (map nullable rs)
    (top + 1 - parts_of tag)

module _ (flags : List Bool) (top : ℕ) (most : top ≤ 256) where
  -- A flag on top of all others, and one in the place of two.
  leaf_flag : (b : Bool) (l : List Bool) → Piled false flags l top → Piled false (set flags (top + 1 - 0) b) (b ∷ l) (top + 1 - 0)
  leaf_flag b l w =
      piled_more false flags top b b (top + 1 - 0) l w.size (omega (arith, w.height)) (omega arith) w.stacked refl

  two_flags : (both : Bool → Bool → Bool) (r s : Bool) (l : List Bool) → Piled false flags (r ∷ s ∷ l) top
      → Piled false (set flags (top + 1 - 2) (both (get_or flags top false) (get_or flags (top - 1) false))) (both r s ∷ l) (top + 1 - 2)
  two_flags both r s l w =
      piled_more false flags top (both (get_or flags top false) (get_or flags (top - 1) false)) (both r s) (top + 1 - 2) l w.size
      (omega (arith, w.height)) (omega arith) w.stacked.1.1
      (ap₂ both (top_member false flags top r (s ∷ l) w) (next_member false flags top r s l w))

  flagged_next : (i : RegexItem) (rs : List Regex) → regex_parts i ≤ length rs → Piled false flags (map nullable rs) top
      → After (regex_before i rs) flags top (regex_tag i)
  unfolding regex_parts regex_before regex_tag parts_of flag_of nullable
  flagged_next empty_item rs a w = leaf_flag true (map nullable rs) w
  flagged_next (class_item low high) rs a w = leaf_flag false (map nullable rs) w
  flagged_next concat_item [] a w = absurd (omega arith)
  flagged_next concat_item (r ∷ []) a w = absurd (omega arith)
  flagged_next concat_item (r ∷ s ∷ rs) a w = two_flags ◌&&◌ (nullable r) (nullable s) (map nullable rs) w
  flagged_next union_item [] a w = absurd (omega arith)
  flagged_next union_item (r ∷ []) a w = absurd (omega arith)
  flagged_next union_item (r ∷ s ∷ rs) a w = two_flags ◌||◌ (nullable r) (nullable s) (map nullable rs) w
  flagged_next star_item [] a w = absurd (omega arith)
  flagged_next star_item (r ∷ rs) a w =
      piled_more false flags top true true (top + 1 - 1) (map nullable rs) w.size (omega (arith, w.height)) (omega arith) w.stacked.1
      refl

-- ---- the loop

-- The items from place `at` on are done.
abbrev pub Flagged : List Regex → ℕ → List Bool → ℕ → Type 0
Flagged rs at flags top = Piled false flags (map nullable (regexes (drop at (flat_map regex_items_of rs)))) top

pub flagged_start : (tags : List ℕ) (items : ℕ) (rs : List Regex) → TagsHeld tags items rs → Flagged rs items (replicate 258 false) 1
unfolding regexes
flagged_start tags items rs h =
    let is = flat_map regex_items_of rs in
    let e : drop items is ≡ [] = drop_of_length-le is {i = items} (omega (arith, h.nodes)) in
    subst (λ (l : List RegexItem). Piled false (replicate 258 false) (map nullable (regexes l)) 1) (sym e) (piled_none false)

module _ (tags : List ℕ) (items : ℕ) (rs : List Regex) (at : ℕ) (flags : List Bool) (top : ℕ) (held : TagsHeld tags items rs)
    (least : 0 < at) (most : at ≤ items) (w : Flagged rs at flags top) where
  pub flag_turn : Top tags at top
  flag_turn =
      let l = regexes (drop at (flat_map regex_items_of rs)) in
      turn-top tags items rs at top held least most (omega (arith, w.height, length-map l nullable))

  pub flagged_more : (b : Bool) (n : ℕ) → b ≡ flag_of (get_or tags (at - 1) 0) (get_or flags top false) (get_or flags (top - 1) false)
      → n ≡ parts_of (get_or tags (at - 1) 0) → Flagged rs (at - 1) (set flags (top + 1 - n) b) (top + 1 - n)
  flagged_more b n e f =
      let is = flat_map regex_items_of rs in
      let i = item_before rs tags items at held least most in
      let r = get_or flags top false in
      let s = get_or flags (top - 1) false in
      let l = map nullable (regexes (drop (at - 1) is)) in
      let g : b ≡ flag_of (regex_tag i.0) r s = e ∙ ap (λ (t : ℕ). flag_of t r s) i.1.tag in
      let m : n ≡ parts_of (regex_tag i.0) = f ∙ ap parts_of i.1.tag in
      subst (λ (b : Bool). Piled false (set flags (top + 1 - n) b) l (top + 1 - n)) (sym g)
      (subst (λ (n : ℕ). Piled false (set flags (top + 1 - n) (flag_of (regex_tag i.0) r s)) l (top + 1 - n)) (sym m)
      (subst (λ (x : List Regex). After x flags top (regex_tag i.0)) (sym i.1.made)
      (flagged_next flags top flag_turn.most i.0 (regexes (drop at is)) i.1.parts w)))

pub flagged_end : (rs : List Regex) (flags : List Bool) (top : ℕ) → Flagged rs 0 flags top → Stacked false flags (map nullable rs)
flagged_end rs flags top w = subst (λ (l : List Regex). Stacked false flags (map nullable l)) (regexes-all rs) w.stacked

-- ---- the first flag that is up

module _ (flags : List Bool) (count : ℕ) (up : List Bool) (k : ℕ) (held : Stacked false flags up) (many : count ≡ length up) where
  at_flag : k < count
      → first_up (drop k up) k ≡ cond (get_or flags (count - k + 1) false) (some k) (first_up (drop (k + 1) up) (k + 1))
  unfolding first_up
  at_flag h =
      let b : k < length up = omega arith in
      ap (λ (l : List Bool). first_up l k) (drop-cons up k false b)
      ∙ ap₂ (λ (t : Bool) (n : ℕ). cond t (some k) (first_up (drop n up) n))
      (sym (ap (λ (n : ℕ). get_or flags (n - k + 1) false) many ∙ stacked-at false flags up k held b)) (sym (add-one k))

  pub up-here : k < count → get_or flags (count - k + 1) false ≡ true → some k ≡ first_up (drop k up) k
  up-here h e = sym (at_flag h ∙ ap (λ (t : Bool). cond t (some k) (first_up (drop (k + 1) up) (k + 1))) e)

  pub up_later : k < count → get_or flags (count - k + 1) false ≡ false → first_up (drop (k + 1) up) (k + 1) ≡ first_up (drop k up) k
  up_later h e = sym (at_flag h ∙ ap (λ (t : Bool). cond t (some k) (first_up (drop (k + 1) up) (k + 1))) e)

  pub up_nowhere : count ≤ k → none ≡ first_up (drop k up) k
  unfolding first_up
  up_nowhere h = ap (λ (l : List Bool). first_up l k) (sym (drop_of_length-le up {i = k} (omega arith)))
