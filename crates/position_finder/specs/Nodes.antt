-- The sets of a regex, and those of a node from the sets of its parts. Which item a tag stands for is the sheet's matter.
use Rattle.std.specs.Prelude.{true, false, ◌&&◌, ◌||◌, cond, ℕ, ◌+◌, ◌-◌, ◌^◌, eqb}
use Rattle.std.specs.Int.Bits.{bit_or}
use Rattle.sheet.specs.Regex.{Regex, class_count}
use Rattle.lexer.specs.Positions.{nullable, first, last}
use Rattle.position_finder.specs.declared.Sets.{Sets}
use Rattle.position_finder.specs.declared.Node.{Node}

-- A regex whose positions start at a base.
unfoldable pub sets_of : Regex → ℕ → Sets
sets_of r base = record { nullable = nullable r; first = first r base; last = last r base; end = base + class_count r }

-- A node of each kind; the regexes after it have positions from a base on.
abbrev pub empty_node : ℕ → Node
empty_node base = record {
  sets = record { nullable = true; first = 0; last = 0; end = base };
  from = 0;
  next = 0;
  base = base;
}

abbrev pub class_node : ℕ → Node
class_node base = record {
  sets = record { nullable = false; first = 2 ^ (base - 1); last = 2 ^ (base - 1); end = base };
  from = 0;
  next = 0;
  base = base - 1;
}

abbrev pub concat_node : Sets → Sets → ℕ → Node
concat_node r s base = record {
  sets = record {
    nullable = r.nullable && s.nullable;
    first = bit_or r.first (cond r.nullable s.first 0);
    last = bit_or (cond s.nullable r.last 0) s.last;
    end = s.end;
  };
  from = r.last;
  next = s.first;
  base = base;
}

abbrev pub union_node : Sets → Sets → ℕ → Node
union_node r s base = record {
  sets = record {
    nullable = r.nullable || s.nullable;
    first = bit_or r.first s.first;
    last = bit_or r.last s.last;
    end = s.end;
  };
  from = 0;
  next = 0;
  base = base;
}

abbrev pub star_node : Sets → ℕ → Node
star_node r base = record {
  sets = record { nullable = true; first = r.first; last = r.last; end = r.end };
  from = r.last;
  next = r.first;
  base = base;
}

-- By the tag.
unfoldable pub node_of : ℕ → Sets → Sets → ℕ → Node
node_of tag r s base =
    cond (eqb tag 0) (empty_node base)
    (cond (eqb tag 1) (class_node base)
    (cond (eqb tag 2) (concat_node r s base) (cond (eqb tag 3) (union_node r s base) (star_node r base))))
