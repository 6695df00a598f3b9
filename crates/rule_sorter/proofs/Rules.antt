-- All columns together: the entries of a rule in each of them, that columns which hold rules have just these, and one rule more. How one
-- column is filled is said in Columns.
use mathlib.Core.Path.{◌≡◌, refl, sym, ap, ap₂, ◌∙◌, subst}
use mathlib.Core.Bool.{Bool, true, false, not, cond}
use mathlib.Core.List.{List, [], ◌∷◌, ◌++◌, append_assoc, map, flat_map}
use Prim.Native.Nat.{ℕ, suc, ◌+◌, ◌≤◌, ◌<◌}
use native.Mathlib.Omega.{arith}
use native.Mathlib.Numerals.{add-one}
use lib.ListN.{length, length-map, take, drop}
use lib.Seq.{drop_at, drop-drop}
use Rattle.basics.specs.Lists.{sum}
use Rattle.sheet.specs.Sheet.{Rule}
use Rattle.sheet.specs.Items.{RegexItem, empty_item, class_item, concat_item, union_item, star_item, item_classes}
use Rattle.sheet.specs.laws.RegexItems.{regex_items_of, regex_tag}
use Rattle.columns.specs.declared.RuleColumns.{RuleColumns}
use Rattle.columns.specs.Holds.{low_of, high_of, items_of_rules, RulesOf}
use Rattle.columns.proofs.laws.ColumnLaws.{Starts, low_one, high_one, entries, entry}
use Rattle.lexer.specs.RuleOrder.{word_rule}
use Rattle.rule_sorter.specs.declared.RuleEnd.{RuleEnd}
use Rattle.rule_sorter.specs.Ends.{BytesAt, ItemsAt, rule_end}
use Rattle.rule_sorter.specs.Kinds.{of_kind, kind_of, kind_before, part}
use Rattle.rule_sorter.proofs.Lists.{map_flat, flat_flat}
use Rattle.rule_sorter.proofs.Columns.{Filled, rule_at, Column, column_start, column_end, rule_within, stands}
use Rattle.rule_sorter.proofs.Columns.{Next, part_is, appended}

-- ---- the entries of a rule in each column

abbrev action_of : Rule → List ℕ
action_of r = r.action ∷ []

abbrev tag_of : RegexItem → List ℕ
tag_of i = regex_tag i ∷ []

abbrev entries_of : (RegexItem → List ℕ) → Rule → List ℕ
entries_of g r = flat_map g (regex_items_of r.regex)

entries-all : (g : RegexItem → List ℕ) (rules : List Rule) → flat_map g (items_of_rules rules) ≡ flat_map (entries_of g) rules
unfolding items_of_rules
entries-all g rules = flat_flat g (λ r. regex_items_of r.regex) rules

tags-all : (rules : List Rule) → map regex_tag (items_of_rules rules) ≡ flat_map (entries_of tag_of) rules
tags-all rules = map_flat regex_tag (items_of_rules rules) ∙ entries-all tag_of rules

tags_many : (is : List RegexItem) → length is ≡ length (flat_map tag_of is)
tags_many is = sym (length-map is regex_tag) ∙ ap length (map_flat regex_tag is)

lows_many : (is : List RegexItem) → length (flat_map low_of is) ≡ sum item_classes is
lows_many = entries low_of low_one

highs_many : (is : List RegexItem) → length (flat_map high_of is) ≡ sum item_classes is
highs_many = entries high_of high_one

pub rules-counted : (c : RuleColumns) (rules : List Rule) (places : List ℕ) → RulesOf c rules places → c.count ≡ length rules
rules-counted c rules places h = h.rules ∙ length-map rules (λ r. r.action)

-- ---- what columns hold

record Held (c : RuleColumns) (rules : List Rule) : Type 0 where
  actions : Filled action_of 32 c.count c.action rules
  tags : Filled (entries_of tag_of) 256 c.items c.tag rules
  lows : Filled (entries_of low_of) 64 c.classes c.low rules
  highs : Filled (entries_of high_of) 64 c.classes c.high rules

held_of : (c : RuleColumns) (rules : List Rule) (places : List ℕ) → RulesOf c rules places → Held c rules
held_of c rules places h =
    let is = items_of_rules rules in
    let a = map_flat (λ (r : Rule). r.action) rules in
    record {
      actions = record { fits = h.rules_fit; many = h.rules ∙ ap length a; entries = h.actions_held ∙ a };
      tags = record {
        fits = h.nodes_fit;
        many = h.nodes ∙ sym (length-map is regex_tag) ∙ ap length (tags-all rules);
        entries = h.tags_held ∙ tags-all rules;
      };
      lows = record {
        fits = h.classes_fit;
        many = h.classes_counted ∙ ap length (entries-all low_of rules);
        entries = h.lows_held ∙ entries-all low_of rules;
      };
      highs = record {
        fits = h.classes_fit;
        many = h.classes_counted ∙ lows_many is ∙ sym (highs_many is) ∙ ap length (entries-all high_of rules);
        entries = h.highs_held ∙ entries-all high_of rules;
      };
    }

rules_held : (c : RuleColumns) (rules : List Rule) → Held c rules → RulesOf c rules (take c.count c.place)
rules_held c rules h =
    let a = map_flat (λ (r : Rule). r.action) rules in
    record {
      rules = h.actions.many ∙ sym (ap length a);
      rules_fit = h.actions.fits;
      actions_held = h.actions.entries ∙ sym a;
      places_held = refl;
      nodes = h.tags.many ∙ sym (ap length (tags-all rules)) ∙ length-map (items_of_rules rules) regex_tag;
      nodes_fit = h.tags.fits;
      tags_held = h.tags.entries ∙ sym (tags-all rules);
      classes_fit = h.lows.fits;
      lows_held = h.lows.entries ∙ sym (entries-all low_of rules);
      highs_held = h.highs.entries ∙ sym (entries-all high_of rules);
      classes_counted = h.lows.many ∙ sym (ap length (entries-all low_of rules));
    }

-- Columns that hold no rule, whatever their entries are.
pub none-held : (c : RuleColumns) → c.count ≡ 0 → c.items ≡ 0 → c.classes ≡ 0 → RulesOf c [] (take c.count c.place)
unfolding flat_map
none-held c n i k = rules_held c [] (record {
  actions = record { fits = omega arith; many = n; entries = ap (λ (m : ℕ). take m c.action) n };
  tags = record { fits = omega arith; many = i; entries = ap (λ (m : ℕ). take m c.tag) i };
  lows = record { fits = omega arith; many = k; entries = ap (λ (m : ℕ). take m c.low) k };
  highs = record { fits = omega arith; many = k; entries = ap (λ (m : ℕ). take m c.high) k };
})

-- Columns with as many rules and the same places have the places of the others.
pub same_places : {c r : RuleColumns} (held ordered : List Rule) (places after : List ℕ) → RulesOf c held places → RulesOf r ordered after
    → length ordered ≡ length held → r.place ≡ c.place → RulesOf r ordered places
same_places {c} {r} held ordered places after h g n e =
    let count : r.count ≡ c.count = rules-counted r ordered after g ∙ n ∙ sym (rules-counted c held places h) in
    subst (RulesOf r ordered) (sym g.places_held ∙ ap₂ (λ (k : ℕ) (l : List ℕ). take k l) count e ∙ h.places_held) g

-- ---- the items of a rule

starts_next : (g : RegexItem → List ℕ) (l : List ℕ) (p n : ℕ) (i : RegexItem) (is : List RegexItem) → length (g i) ≡ n
    → Starts g l p (i ∷ is) → Starts g l (p + n) is
unfolding flat_map
starts_next g l p n i is e s = (
  s.0,
  sym (drop-drop n p l) ∙ ap (drop n) (s.1 ∙ append_assoc (g i) (flat_map g is) s.0) ∙ drop_at (g i) (flat_map g is ++ s.0) n e,
)

module _ (tag low high : List ℕ) where
  bytes_at : (c : ℕ) (i : RegexItem) (is : List RegexItem) → c + item_classes i ≤ 64
      → Starts low_of low c (i ∷ is) → Starts high_of high c (i ∷ is) → BytesAt low high c i
  unfolding flat_map low_of high_of item_classes
  bytes_at c empty_item is b l h = tt
  bytes_at c (class_item x y) is b l h =
      (omega arith, entry low c x (flat_map low_of is ++ l.0) l.1, entry high c y (flat_map high_of is ++ h.0) h.1)
  bytes_at c concat_item is b l h = tt
  bytes_at c union_item is b l h = tt
  bytes_at c star_item is b l h = tt

  items_at : (i c : ℕ) (is : List RegexItem) → i + length is ≤ 256 → c + sum item_classes is ≤ 64
      → Starts tag_of tag i is → Starts low_of low c is → Starts high_of high c is → ItemsAt tag low high i c is
  unfolding flat_map
  items_at i c [] a b t l h = tt
  items_at i c (x ∷ is) a b t l h = (
    omega arith,
    entry tag i (regex_tag x) (flat_map tag_of is ++ t.0) t.1,
    bytes_at c x is (omega arith) l h,
    items_at (suc i) (c + item_classes x) is (omega arith) (omega arith)
        (subst (λ (n : ℕ). Starts tag_of tag n is) (add-one i) (starts_next tag_of tag i 1 x is refl t))
        (starts_next low_of low c (item_classes x) x is (low_one x) l)
        (starts_next high_of high c (item_classes x) x is (high_one x) h),
  )

-- ---- one rule after the other

-- The columns are as long as they are declared.
pub record Long (c : RuleColumns) : Type 0 where
  pub action_long : length c.action ≡ 32
  pub tag_long : length c.tag ≡ 256
  pub low_long : length c.low ≡ 64
  pub high_long : length c.high ≡ 64

-- The first k rules are done; the items and the classes of rule k begin at these places.
pub record Sorting (rules c : RuleColumns) (item class : ℕ) (words : Bool) (held : List Rule) (k : ℕ) : Type 0 where
  pub actions : Column action_of 32 rules.count rules.action k c.count c.action words held k
  pub tags : Column (entries_of tag_of) 256 rules.items rules.tag item c.items c.tag words held k
  pub lows : Column (entries_of low_of) 64 rules.classes rules.low class c.classes c.low words held k
  pub highs : Column (entries_of high_of) 64 rules.classes rules.high class c.classes c.high words held k

pub sorting_start : (rules c : RuleColumns) (words : Bool) (held : List Rule) (places moved : List ℕ) → RulesOf rules held places
    → RulesOf c (kind_before words held) moved → Long c → Sorting rules c 0 0 words held 0
sorting_start rules c words held places moved h g l =
    let a = held_of rules held places h in
    let b = held_of c (kind_before words held) moved g in
    record {
      actions = column_start a.actions b.actions l.action_long;
      tags = column_start a.tags b.tags l.tag_long;
      lows = column_start a.lows b.lows l.low_long;
      highs = column_start a.highs b.highs l.high_long;
    }

module _ {rules c : RuleColumns} {item class : ℕ} {words : Bool} {held : List Rule} {k : ℕ} where
  pub sorting_end : length held ≤ k → Sorting rules c item class words held k
      → RulesOf c (kind_before words held ++ kind_of words held) (take c.count c.place)
  sorting_end h s =
      rules_held c (kind_before words held ++ kind_of words held) (record {
        actions = column_end h s.actions;
        tags = column_end h s.tags;
        lows = column_end h s.lows;
        highs = column_end h s.highs;
      })

  -- What `rule_end` asks.
  pub class_fits : k < length held → Sorting rules c item class words held k → class ≤ 64
  class_fits below s = omega (arith, rule_within below s.lows, s.lows.full.fits)

  pub rule_items : k < length held → Sorting rules c item class words held k
      → ItemsAt rules.tag rules.low rules.high item class (regex_items_of (rule_at held k).regex)
  rule_items below s =
      let is = regex_items_of (rule_at held k).regex in
      items_at rules.tag rules.low rules.high item class is
      (omega (arith, rule_within below s.tags, s.tags.full.fits, tags_many is))
      (omega (arith, rule_within below s.lows, s.lows.full.fits, lows_many is))
      (stands below s.tags) (stands below s.lows) (stands below s.highs)

-- The end of rule k is found, and whether it is wanted.
pub record Found (rules c : RuleColumns) (item class : ℕ) (words : Bool) (held : List Rule) (k : ℕ) (e : RuleEnd) (wanted : Bool)
    : Type 0 where
  pub below : k < length held
  pub sorting : Sorting rules c item class words held k
  pub end_is : e ≡ rule_end (rule_at held k).regex item class
  pub asked : wanted ≡ cond words e.word (not e.word)

module _ {rules c : RuleColumns} {item class : ℕ} {words : Bool} {held : List Rule} {k : ℕ} {e : RuleEnd} {wanted : Bool}
    (found : Found rules c item class words held k e wanted) where
  wanted_is : wanted ≡ of_kind words (rule_at held k)
  unfolding rule_end word_rule
  wanted_is = found.asked ∙ ap (λ (x : RuleEnd). cond words x.word (not x.word)) found.end_is

  next : {f : Rule → List ℕ} {size n : ℕ} {from : List ℕ} {begin m : ℕ} {to : List ℕ} {end : ℕ}
      → Column f size n from begin m to words held k → end ≡ begin + length (f (rule_at held k))
      → Next f size n from begin m to words held k wanted end
  next column ends = record { below = found.below; column = column; asked = wanted_is; ends = ends }

  pub actions_next : Next action_of 32 rules.count rules.action k c.count c.action words held k wanted (k + 1)
  actions_next = next found.sorting.actions refl

  pub tags_next : Next (entries_of tag_of) 256 rules.items rules.tag item c.items c.tag words held k wanted e.item
  unfolding rule_end
  tags_next =
      next found.sorting.tags
      (ap (λ (x : RuleEnd). x.item) found.end_is ∙ ap (λ (n : ℕ). item + n) (tags_many (regex_items_of (rule_at held k).regex)))

  classes_end : (g : RegexItem → List ℕ) → ((is : List RegexItem) → length (flat_map g is) ≡ sum item_classes is)
      → e.class ≡ class + length (entries_of g (rule_at held k))
  unfolding rule_end
  classes_end g many =
      ap (λ (x : RuleEnd). x.class) found.end_is ∙ ap (λ (n : ℕ). class + n) (sym (many (regex_items_of (rule_at held k).regex)))

  pub lows_next : Next (entries_of low_of) 64 rules.classes rules.low class c.classes c.low words held k wanted e.class
  lows_next = next found.sorting.lows (classes_end low_of lows_many)

  pub highs_next : Next (entries_of high_of) 64 rules.classes rules.high class c.classes c.high words held k wanted e.class
  highs_next = next found.sorting.highs (classes_end high_of highs_many)

  -- A rule has as many low bytes as high bytes.
  lows_highs : length (part wanted class e.class rules.low) ≡ length (part wanted class e.class rules.high)
  lows_highs = ap length (part_is lows_next) ∙ go (of_kind words (rule_at held k)) ∙ sym (ap length (part_is highs_next))
    where
      go : (b : Bool) → length (cond b (entries_of low_of (rule_at held k)) []) ≡ length (cond b (entries_of high_of (rule_at held k)) [])
      go true = let is = regex_items_of (rule_at held k).regex in lows_many is ∙ sym (highs_many is)
      go false = refl

  -- One rule more, by what each call of `append_part` gives. The classes go on where the high bytes end, and so where the low bytes do.
  abbrev Given : List ℕ → ℕ → ℕ → ℕ → List ℕ → ℕ → List ℕ → Type 0
  Given from begin end m to m' to' =
      (m' ≡ m + length (part wanted begin end from)) × (take m' to' ≡ take m to ++ part wanted begin end from) × (length to' ≡ length to)

  pub sorting_next : {c' : RuleColumns} (n : ℕ) → Given rules.action k (k + 1) c.count c.action c'.count c'.action
      → Given rules.tag item e.item c.items c.tag c'.items c'.tag
      → Given rules.low class e.class c.classes c.low n c'.low
      → Given rules.high class e.class c.classes c.high c'.classes c'.high
      → Sorting rules c' e.item e.class words held (k + 1)
  sorting_next {c'} n a t l h =
      let same : c'.classes ≡ n = omega (arith, lows_highs, l.0, h.0) in
      record {
        actions = appended actions_next a.0 a.1 a.2;
        tags = appended tags_next t.0 t.1 t.2;
        lows = appended lows_next (same ∙ l.0) (ap (λ (m : ℕ). take m c'.low) same ∙ l.1) l.2;
        highs = appended highs_next h.0 h.1 h.2;
      }
