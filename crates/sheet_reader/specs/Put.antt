-- Columns with one thing more, and with a list of things more. What columns hold is said in the crate of the columns, not here.
use Rattle.std.specs.Prelude.{cond, List, [], ◌∷◌, ℕ, zero, suc, ◌+◌, ◌-◌, eqb, ltb, get_or, set, replicate}
use Rattle.sheet.specs.Items.{RegexItem, empty_item, class_item, concat_item, union_item, star_item}
use Rattle.sheet.specs.Reading.{ReadRule, ReadNode}
use Rattle.sheet.specs.laws.ExpressionItems.{expression_tag}
use Rattle.columns.specs.Holds.{number_after}
use Rattle.columns.specs.declared.RuleColumns.{RuleColumns}
use Rattle.columns.specs.declared.NodeColumns.{NodeColumns}

-- ---- one number more

abbrev pub with_tag : RuleColumns → ℕ → RuleColumns
with_tag c t = record {
  count = c.count;
  action = c.action;
  place = c.place;
  items = c.items + 1;
  tag = set c.tag c.items t;
  classes = c.classes;
  low = c.low;
  high = c.high;
}

abbrev pub with_class : RuleColumns → ℕ → ℕ → RuleColumns
with_class c l h = record {
  count = c.count;
  action = c.action;
  place = c.place;
  items = c.items;
  tag = c.tag;
  classes = c.classes + 1;
  low = set c.low c.classes l;
  high = set c.high c.classes h;
}

abbrev pub with_action : RuleColumns → ℕ → ℕ → RuleColumns
with_action c a p = record {
  count = c.count + 1;
  action = set c.action c.count a;
  place = set c.place c.count p;
  items = c.items;
  tag = c.tag;
  classes = c.classes;
  low = c.low;
  high = c.high;
}

abbrev pub with_node : NodeColumns → ℕ → ℕ → ℕ → NodeColumns
with_node c t n p = record {
  count = c.count + 1;
  tag = set c.tag c.count t;
  number = set c.number c.count n;
  place = set c.place c.count p;
}

-- Nothing yet.
abbrev pub no_rules : RuleColumns
no_rules = record {
  count = 0;
  action = replicate 32 0;
  place = replicate 32 0;
  items = 0;
  tag = replicate 256 0;
  classes = 0;
  low = replicate 64 0;
  high = replicate 64 0;
}

abbrev pub no_nodes : NodeColumns
no_nodes = record { count = 0; tag = replicate 64 0; number = replicate 64 0; place = replicate 64 0 }

-- ---- one thing more

unfoldable pub with_item : RuleColumns → RegexItem → RuleColumns
with_item c empty_item = with_tag c 0
with_item c (class_item low high) = with_class (with_tag c 1) low high
with_item c concat_item = with_tag c 2
with_item c union_item = with_tag c 3
with_item c star_item = with_tag c 4

-- A list of things more, from the first.
unfoldable pub with_all : {C A : Type 0} → (C → A → C) → C → List A → C
with_all put c [] = c
with_all put c (a ∷ l) = with_all put (put c a) l

unfoldable pub with_rule : RuleColumns → ReadRule → RuleColumns
with_rule c r = with_all with_item (with_action c r.action r.place) r.items

unfoldable pub with_read_node : NodeColumns → ReadNode → NodeColumns
with_read_node c n = with_node c (expression_tag n.item) (number_after n.item) n.place

-- ---- the expressions still due

-- So many, and for each, the next one last, how many fixed points are open where it stands.
pub record Pending : Type 0 where
  pub count : ℕ
  pub opened : List ℕ

abbrev pub pending : ℕ → List ℕ → Pending
pending n l = record { count = n; opened = l }

-- The same as a list, the next one first.
unfoldable pub due_from : ℕ → List ℕ → List ℕ
due_from zero opened = []
due_from (suc n) opened = get_or opened n 0 ∷ due_from n opened

abbrev pub due_of : Pending → List ℕ
due_of p = due_from p.count p.opened

-- At the next one.
abbrev pub next_opened : Pending → ℕ
next_opened p = get_or p.opened (p.count - 1) 0

-- The parts of a node with this tag take the place of the next one: one part inside one more fixed point, one inside as many, none,
-- or two.
unfoldable pub with_parts : Pending → ℕ → Pending
with_parts p t =
    cond (eqb t 5) (record { count = p.count; opened = set p.opened (p.count - 1) (next_opened p + 1) })
    (cond (eqb t 7) p
    (cond (ltb t 3) (record { count = p.count - 1; opened = p.opened })
    (cond (eqb t 6) (record { count = p.count - 1; opened = p.opened })
    (record { count = p.count + 1; opened = set p.opened p.count (next_opened p) }))))
