-- One column, whichever it is: that it has the rules' entries, and the rules of a kind appended to it rule by rule. What entries a rule has
-- is left open here.
use mathlib.Core.Path.{◌≡◌, refl, sym, ap, ap₂, ◌∙◌}
use mathlib.Core.Bool.{Bool, true, false, cond}
use mathlib.Core.List.{List, [], ◌∷◌, ◌++◌, append_assoc, append-nil, flat_map}
use Prim.Native.Nat.{ℕ, suc, ◌+◌, ◌-◌, ◌≤◌, ◌<◌}
use native.Mathlib.Omega.{arith}
use native.Mathlib.Numerals.{add-one}
use lib.ListN.{length, length-append, length-take, take, drop, get_or, take-append-drop}
use lib.Seq.{split_at, take-suc, take_all, take_at, drop_at}
use Rattle.basics.specs.Lists.{filter}
use Rattle.sheet.specs.Regex.{empty}
use Rattle.sheet.specs.Sheet.{Rule}
use Rattle.sheet.proofs.laws.ListLaws.{flat_map-append}
use Rattle.rule_sorter.specs.Kinds.{of_kind, kind_of, kind_before, part}
use Rattle.rule_sorter.proofs.Lists.{flat_one, flat_append, flat_partition}

-- ---- one column

-- The first n entries of a column, which has room for so many, are those that f gives for the rules.
pub record Filled (f : Rule → List ℕ) (size n : ℕ) (column : List ℕ) (rules : List Rule) : Type 0 where
  pub fits : n ≤ size
  pub many : n ≡ length (flat_map f rules)
  pub entries : take n column ≡ flat_map f rules

-- The rule with number k.
abbrev no_rule : Rule
no_rule = record { action = 0; regex = empty }

abbrev pub rule_at : List Rule → ℕ → Rule
rule_at rules k = get_or rules k no_rule

-- The rules of a kind among the first k are appended to those of the kind before. The entries of rule k begin at a place.
pub record Column (f : Rule → List ℕ) (size n : ℕ) (from : List ℕ) (begin m : ℕ) (to : List ℕ) (words : Bool) (held : List Rule) (k : ℕ)
    : Type 0 where
  pub full : Filled f size n from held
  begin_at : begin ≡ length (flat_map f (take k held))
  pub long : length to ≡ size
  done : Filled f size m to (kind_before words held ++ kind_of words (take k held))

module _ {f : Rule → List ℕ} {size n : ℕ} {from : List ℕ} {m : ℕ} {to : List ℕ} {words : Bool} {held : List Rule} where
  pub column_start : Filled f size n from held → Filled f size m to (kind_before words held) → length to ≡ size
      → Column f size n from 0 m to words held 0
  unfolding flat_map filter
  column_start h g l = record { full = h; begin_at = refl; long = l; done = rw (append-nil (kind_before words held)) g }

  pub column_end : {begin k : ℕ} → length held ≤ k → Column f size n from begin m to words held k
      → Filled f size m to (kind_before words held ++ kind_of words held)
  column_end {k = k} h c = rw (take_all k held h) at c.done

-- ---- the entries of both kinds

-- Together they are no more than those of all rules.
kinds_fit : (f : Rule → List ℕ) (words : Bool) (held : List Rule)
    → length (flat_map f (kind_before words held ++ kind_of words held)) ≤ length (flat_map f held)
kinds_fit f true held = omega (arith, flat_partition f (of_kind true) held)
kinds_fit f false held =
    let first = kind_of true held in
    let later = kind_of false held in
    omega (
      arith,
      flat_partition f (of_kind true) held,
      ap length (flat_map-append f first later),
      length-append (flat_map f first) (flat_map f later),
    )

-- The first j rules of a kind have no more than all of it.
kind_within : (f : Rule → List ℕ) (words : Bool) (held : List Rule) (j : ℕ)
    → length (flat_map f (kind_before words held ++ kind_of words (take j held)))
    ≤ length (flat_map f (kind_before words held ++ kind_of words held))
kind_within f words held j =
    let x = kind_before words held in
    let first = flat_map f (x ++ kind_of words (take j held)) in
    let later = flat_map f (kind_of words (drop j held)) in
    let e : first ++ later ≡ flat_map f (x ++ kind_of words held) =
    sym (flat_append f (of_kind words) x (take j held) (drop j held))
    ∙ ap (λ (l : List Rule). flat_map f (x ++ kind_of words l)) (take-append-drop j held) in
    omega (arith, ap length e, length-append first later)

-- ---- one rule

module _ (f : Rule → List ℕ) (held : List Rule) (k : ℕ) (below : k < length held) where
  -- The entries of all rules: those of the rules before rule k, its own, and those of the rules after it.
  rules_split : flat_map f held ≡ flat_map f (take k held) ++ (f (rule_at held k) ++ flat_map f (drop (suc k) held))
  unfolding flat_map
  rules_split = ap (flat_map f) (split_at held k no_rule below) ∙ flat_map-append f (take k held) (rule_at held k ∷ drop (suc k) held)

  rules_one_more : take (k + 1) held ≡ take k held ++ (rule_at held k ∷ [])
  rules_one_more = ap (λ (j : ℕ). take j held) (add-one k) ∙ take-suc held k no_rule below

  -- Where the entries of rule k end, those of the next rule begin.
  next_begin : (begin end : ℕ) → begin ≡ length (flat_map f (take k held)) → end ≡ begin + length (f (rule_at held k))
      → end ≡ length (flat_map f (take (k + 1) held))
  unfolding flat_map
  next_begin begin end b e =
      let first = flat_map f (take k held) in
      let own = f (rule_at held k) in
      let s : flat_map f (take (k + 1) held) ≡ first ++ own =
      ap (flat_map f) rules_one_more ∙ flat_map-append f (take k held) (rule_at held k ∷ [])
      ∙ ap (λ (l : List ℕ). first ++ l) (append-nil own) in
      omega (arith, ap length s, length-append first own)

  -- One rule more.
  kind_more : (words : Bool) → flat_map f (kind_before words held ++ kind_of words (take (k + 1) held))
      ≡ flat_map f (kind_before words held ++ kind_of words (take k held)) ++ cond (of_kind words (rule_at held k)) (f (rule_at held k)) []
  kind_more words =
      let x = kind_before words held in
      ap (λ (l : List Rule). flat_map f (x ++ kind_of words l)) rules_one_more
      ∙ flat_append f (of_kind words) x (take k held) (rule_at held k ∷ [])
      ∙ ap (λ (l : List ℕ). flat_map f (x ++ kind_of words (take k held)) ++ l) (flat_one f (of_kind words) (rule_at held k))

module _ {f : Rule → List ℕ} {size n : ℕ} {from : List ℕ} {begin m : ℕ} {to : List ℕ} {words : Bool} {held : List Rule} {k : ℕ}
    (below : k < length held) (column : Column f size n from begin m to words held k) where
  -- The entries of rule k lie within the column.
  pub rule_within : begin + length (f (rule_at held k)) ≤ n
  rule_within =
      let own = f (rule_at held k) in
      let later = flat_map f (drop (suc k) held) in
      omega (
        arith,
        ap length (rules_split f held k below),
        length-append (flat_map f (take k held)) (own ++ later),
        length-append own later,
        column.begin_at,
        column.full.many,
      )

  -- What stands in the column from there on.
  pub stands : (rest : List ℕ) × (drop begin from ≡ f (rule_at held k) ++ rest)
  stands =
      let first = flat_map f (take k held) in
      let own = f (rule_at held k) in
      let later = flat_map f (drop (suc k) held) in
      let rest = drop n from in
      let e : from ≡ first ++ (own ++ later ++ rest) =
      sym (take-append-drop n from) ∙ ap (λ (l : List ℕ). l ++ rest) (column.full.entries ∙ rules_split f held k below)
      ∙ append_assoc first (own ++ later) rest in
      let d = drop_at first (own ++ later ++ rest) begin (sym column.begin_at) in
      (later ++ rest, ap (drop begin) e ∙ d ∙ append_assoc own later rest)

-- The entries of rule k in a column, where they end, and whether they are wanted.
pub record Next (f : Rule → List ℕ) (size n : ℕ) (from : List ℕ) (begin m : ℕ) (to : List ℕ) (words : Bool) (held : List Rule) (k : ℕ)
    (wanted : Bool) (end : ℕ) : Type 0 where
  pub below : k < length held
  pub column : Column f size n from begin m to words held k
  pub asked : wanted ≡ of_kind words (rule_at held k)
  pub ends : end ≡ begin + length (f (rule_at held k))

module _ {f : Rule → List ℕ} {size n : ℕ} {from : List ℕ} {begin m : ℕ} {to : List ℕ} {words : Bool} {held : List Rule} {k : ℕ}
    {wanted : Bool} {end : ℕ} (next : Next f size n from begin m to words held k wanted end) where
  pub part_is : part wanted begin end from ≡ cond (of_kind words (rule_at held k)) (f (rule_at held k)) []
  unfolding part
  part_is =
      let own = f (rule_at held k) in
      let s = stands next.below next.column in
      let h : length own ≡ end - begin = omega (arith, next.ends) in
      ap₂ (λ (b : Bool) (l : List ℕ). cond b l []) next.asked (ap (take (end - begin)) s.1 ∙ take_at own s.0 (end - begin) h)

  -- The entries of the kind, with this rule's.
  many_more : length (flat_map f (kind_before words held ++ kind_of words (take (k + 1) held))) ≡ m + length (part wanted begin end from)
  many_more =
      let first = flat_map f (kind_before words held ++ kind_of words (take k held)) in
      let own = cond (of_kind words (rule_at held k)) (f (rule_at held k)) [] in
      omega (
        arith,
        ap length (kind_more f held k next.below words),
        length-append first own,
        ap length part_is,
        next.column.done.many,
      )

  room : m + length (part wanted begin end from) ≤ size
  room =
      omega (
        arith,
        many_more,
        kind_within f words held (k + 1),
        kinds_fit f words held,
        next.column.full.many,
        next.column.full.fits,
      )

  -- What `append_part` asks, and what it gives.
  pub appendable : (begin ≤ end) × (end ≤ length from) × (m + length (part wanted begin end from) ≤ length to)
  appendable =
      let full = next.column.full in
      let within = rule_within next.below next.column in (
        omega (arith, next.ends),
        omega (arith, next.ends, within, full.many, ap length full.entries, length-take n from),
        omega (arith, room, next.column.long),
      )

  pub appended : {m' : ℕ} {to' : List ℕ} → m' ≡ m + length (part wanted begin end from)
      → take m' to' ≡ take m to ++ part wanted begin end from → length to' ≡ length to → Column f size n from end m' to' words held (k + 1)
  appended g h l = record {
    full = next.column.full;
    begin_at = next_begin f held k next.below begin end next.column.begin_at next.ends;
    long = l ∙ next.column.long;
    done = record {
      fits = omega (arith, room);
      many = omega (arith, many_more);
      entries = h ∙ ap₂ ◌++◌ next.column.done.entries part_is ∙ sym (kind_more f held k next.below words);
    };
  }
