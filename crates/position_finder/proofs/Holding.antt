-- From columns of classes, rules and sets to the sheet's own list of positions.
use mathlib.Core.Path.{◌≡◌, refl, sym, ap, ap₂, ◌∙◌}
use mathlib.Core.List.{List, [], ◌∷◌, ◌++◌, append_assoc, map, flat_map}
use Prim.Native.Nat.{ℕ, zero, suc, ◌+◌, ◌≤◌, ◌<◌}
use native.Mathlib.Omega.{arith}
use native.Mathlib.Nat.{zero-add, add-zero, suc-add}
use lib.ListN.{length, drop, get_or}
use lib.Seq.{drop-drop, drop_at}
use Rattle.basics.specs.Bits.{bit}
use Rattle.sheet.specs.Regex.{Regex, empty, class, concat, union, star, class_count}
use Rattle.sheet.specs.Sheet.{Rule}
use Rattle.sheet.specs.Items.{RegexItem, class_item, item_classes}
use Rattle.sheet.proofs.laws.ListLaws.{flat_map-append}
use Rattle.sheet.specs.laws.RegexItems.{regex_items_of}
use Rattle.sheet.proofs.laws.RegexItems.{items_classes}
use Rattle.columns.specs.Holds.{low_of, high_of, items_of_rules}
use Rattle.columns.proofs.laws.ColumnLaws.{Starts, low_one, high_one, entries, entry}
use Rattle.lexer.specs.Positions.{Position, last, follow, part_positions, positions_from}
use Rattle.lexer.proofs.laws.PositionBounds.{class_total}
use Rattle.columns.specs.HeldPositions.{held_position, held_from}
use Rattle.position_finder.specs.Forests.{all_last, all_follow, owner}
use Rattle.position_finder.proofs.Ranges.{last-here, last_later, follow-here, follow_later, owner-here, owner_later}

-- ---- entries of a column, one a class

module _ (g : RegexItem → List ℕ) (one : (i : RegexItem) → length (g i) ≡ item_classes i) where
  pub entries_regex : (r : Regex) → length (flat_map g (regex_items_of r)) ≡ class_count r
  entries_regex r = entries g one (regex_items_of r) ∙ items_classes r

  -- A regex's entries, then those of further items.
  module _ (l : List ℕ) (p : ℕ) (r : Regex) (is : List RegexItem) (s : Starts g l p (regex_items_of r ++ is)) where
    split : drop p l ≡ flat_map g (regex_items_of r) ++ (flat_map g is ++ s.0)
    split =
        s.1 ∙ ap (λ (x : List ℕ). x ++ s.0) (flat_map-append g (regex_items_of r) is)
        ∙ append_assoc (flat_map g (regex_items_of r)) (flat_map g is) s.0

    pub starts_left : Starts g l p (regex_items_of r)
    starts_left = (flat_map g is ++ s.0, split)

    pub starts_right : Starts g l (p + class_count r) is
    starts_right = (
      s.0,
      sym (drop-drop (class_count r) p l) ∙ ap (drop (class_count r)) split
          ∙ drop_at (flat_map g (regex_items_of r)) (flat_map g is ++ s.0) (class_count r) (entries_regex r),
    )

-- ---- positions

module _ (lows highs numbers follows : List ℕ) (ends : ℕ) where
  held_append : (i m n : ℕ) → held_from lows highs numbers follows ends i (m + n)
      ≡ held_from lows highs numbers follows ends i m ++ held_from lows highs numbers follows ends (i + m) n
  unfolding held_from
  held_append i zero n =
      ap₂ (λ (a b : ℕ). held_from lows highs numbers follows ends a b) (sym (add-zero i)) (zero-add n)
  held_append i (suc m) n =
      ap (held_from lows highs numbers follows ends i) (suc-add m n)
      ∙ ap (λ (l : List Position). held_position lows highs numbers follows ends i ∷ l)
      (held_append (suc i) m n
      ∙ ap (λ (a : ℕ). held_from lows highs numbers follows ends (suc i) m ++ held_from lows highs numbers follows ends a n) (omega arith))

  -- What the columns say of position j, as rule k's, whose regex `whole` has its positions from a base on.
  abbrev pub Owned : Regex → ℕ → ℕ → ℕ → Type 0
  Owned whole base k j =
      (get_or numbers j 0 ≡ k) × (bit ends j ≡ bit (last whole base) j) × (get_or follows j 0 ≡ follow whole base j)

  module _ (whole : Regex) (base k : ℕ) where
    class_held : (low high p : ℕ) → Starts low_of lows p (class_item low high ∷ []) → Starts high_of highs p (class_item low high ∷ [])
        → Owned whole base k p → held_position lows highs numbers follows ends p
        ≡ record { low = low; high = high; rule = k; last = bit (last whole base) p; follow = follow whole base p }
    unfolding held_position low_of high_of flat_map
    class_held low high p s t o = rw (entry lows p low s.0 s.1, entry highs p high t.0 t.1, o.0, o.1, o.2)

    -- The part r, whose own positions start at p, is in the columns.
    abbrev Part : Regex → ℕ → Type 0
    Part r p =
        Starts low_of lows p (regex_items_of r) → Starts high_of highs p (regex_items_of r)
        → ((j : ℕ) → p ≤ j → j < p + class_count r → Owned whole base k j)
        → held_from lows highs numbers follows ends p (class_count r) ≡ part_positions whole base k r p

    both_held : (a b : Regex) (p : ℕ) → Part a p → Part b (p + class_count a)
        → Starts low_of lows p (regex_items_of a ++ regex_items_of b) → Starts high_of highs p (regex_items_of a ++ regex_items_of b)
        → ((j : ℕ) → p ≤ j → j < p + (class_count a + class_count b) → Owned whole base k j)
        → held_from lows highs numbers follows ends p (class_count a + class_count b)
        ≡ part_positions whole base k a p ++ part_positions whole base k b (p + class_count a)
    both_held a b p f g s t o =
        let is = regex_items_of b in
        held_append p (class_count a) (class_count b)
        ∙ ap₂ ◌++◌
        (f (starts_left low_of low_one lows p a is s) (starts_left high_of high_one highs p a is t) (λ j h l. o j h (omega arith)))
        (g (starts_right low_of low_one lows p a is s) (starts_right high_of high_one highs p a is t)
        (λ j h l. o j (omega arith) (omega arith)))

    part_held : (r : Regex) (p : ℕ) → Part r p
    unfolding part_positions class_count held_from regex_items_of low_of high_of flat_map
    part_held empty p s t o = refl
    part_held (class low high) p s t o = ap (λ (x : Position). x ∷ []) (class_held low high p s t (o p (omega arith) (omega arith)))
    part_held (concat a b) p s t o = both_held a b p (part_held a p) (part_held b (p + class_count a)) s t o
    part_held (union a b) p s t o = both_held a b p (part_held a p) (part_held b (p + class_count a)) s t o
    part_held (star a) p s t o = part_held a p s t o

  -- What the columns say of position j, as one of several regexes', the first with number k.
  abbrev pub AllOwned : List Regex → ℕ → ℕ → ℕ → Type 0
  AllOwned rs base k j =
      (get_or numbers j 0 ≡ owner rs k base j) × (bit ends j ≡ bit (all_last rs base) j) × (get_or follows j 0 ≡ all_follow rs base j)

  owned_here : (r : Regex) (rs : List Regex) (base k j : ℕ) → j < base + class_count r → AllOwned (r ∷ rs) base k j → Owned r base k j
  owned_here r rs base k j h o =
      (o.0 ∙ owner-here r rs base j k h, o.1 ∙ last-here r rs base j h, o.2 ∙ follow-here r rs base j h)

  owned_later : (r : Regex) (rs : List Regex) (base k j : ℕ) → base + class_count r ≤ j → AllOwned (r ∷ rs) base k j
      → AllOwned rs (base + class_count r) (suc k) j
  owned_later r rs base k j h o =
      (o.0 ∙ owner_later r rs base j k h, o.1 ∙ last_later r rs base j h, o.2 ∙ follow_later r rs base j h)

  pub rules_held : (rules : List Rule) (k base : ℕ)
      → Starts low_of lows base (items_of_rules rules) → Starts high_of highs base (items_of_rules rules)
      → ((j : ℕ) → base ≤ j → j < base + class_total rules → AllOwned (map (λ r. r.regex) rules) base k j)
      → held_from lows highs numbers follows ends base (class_total rules) ≡ positions_from rules k base
  unfolding positions_from items_of_rules flat_map held_from
  rules_held [] k base s t o = refl
  rules_held (r ∷ rules) k base s t o =
      let x = r.regex in
      let is = items_of_rules rules in
      held_append base (class_count x) (class_total rules)
      ∙ ap₂ ◌++◌
      (part_held x base k x base (starts_left low_of low_one lows base x is s) (starts_left high_of high_one highs base x is t)
      (λ j h l. owned_here x (map (λ r. r.regex) rules) base k j l (o j h (omega arith))))
      (rules_held rules (suc k) (base + class_count x) (starts_right low_of low_one lows base x is s)
      (starts_right high_of high_one highs base x is t)
      (λ j h l. owned_later x (map (λ r. r.regex) rules) base k j h (o j (omega arith) (omega arith))))
