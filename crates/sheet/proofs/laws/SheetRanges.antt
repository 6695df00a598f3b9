-- What the sheet's format makes keeps the page's ranges and limits; and from places that correspond it makes the same sheet, with places that
-- correspond. Bytes are not named here.
use Rattle.std.specs.Prelude.{◌≡◌, Bool, false, not, ◌||◌, eqb, get_or}
use Rattle.std.proofs.Math.Path.{refl, ap}
use Rattle.std.proofs.Common.{sym, ◌∙◌, true≢false}
use Rattle.std.proofs.Math.Bool.{true}
use mathlib.Core.List.{List, [], ◌∷◌, ◌++◌}
use Rattle.std.proofs.Math.Option.{Option, none, some}
use Prim.Native.Nat.{ℕ, zero, suc, ◌+◌, ◌≤◌}
use native.Mathlib.Omega.{arith}
use Rattle.std.proofs.Math.Dec.{ltb}
use Rattle.std.proofs.Math.ListN.{length, length-append}
use borrow.Author.Tests.{ltb-true}
use Rattle.basics.specs.Lists.{All, sum}
use Rattle.basics.proofs.laws.Truth.{and-true-first, and-true-second}
use Rattle.sheet.specs.Limits.{most_tokens, most_rules, most_classes, most_regex_nodes, most_expression_nodes}
use Rattle.sheet.specs.Regex.{Regex, empty, class, concat, union, star, regex_nodes, class_count}
use Rattle.sheet.specs.Expression.{Expression, epsilon, bottom, token, sequence, alternative, fixed_point, variable, repetition, size}
use Rattle.sheet.specs.Sheet.{Rule}
use Rattle.sheet.specs.WellFormed.{BytesInRange, Closed, RuleInRange, WithinLimits}
use Rattle.sheet.specs.Field.{between}
use Rattle.sheet.proofs.laws.FieldLaws.{true-between}
use Rattle.sheet.specs.Format.{Format, done, number, field}
use Rattle.sheet.specs.SheetFormat.{Contents, judge, regex_format, rules_format, expression_format, sheet_format}
use Rattle.sheet.proofs.laws.AfterTags.{regex_limits, after_regex_tag, after_expression_tag}

-- ---- two formats that ask alike

-- They ask the same of each number, by question 4 or 5, and go on alike after the same value at places that correspond; what they make in the
-- end is so related.
pub data Alike (S : ℕ → ℕ → Type 0) {A : Type 0} (R : A → A → Type 0) : Format A → Format A → Type 0 where
  both_made : {a b : A} → R a b → Alike S R (done a) (done b)
  both_ask : {ask other : ℕ → Option ℕ} {next then : ℕ → ℕ → Format A} → ((v : ℕ) → ask v ≡ other v)
      → ((v question : ℕ) → ask v ≡ some question → (4 ≤ question) × (question ≤ 5))
      → ((v p q : ℕ) → ask v ≡ none → S p q → Alike S R (next v p) (then v q)) → Alike S R (number ask next) (number other then)

-- The places of the one list correspond to those of the other.
abbrev pub Pairs : (ℕ → ℕ → Type 0) → List ℕ → List ℕ → Type 0
Pairs S [] [] = Unit
Pairs S [] (j ∷ m) = ⊥
Pairs S (i ∷ l) [] = ⊥
Pairs S (i ∷ l) (j ∷ m) = S i j × Pairs S l m

pairs_length : (S : ℕ → ℕ → Type 0) (l m : List ℕ) → Pairs S l m → length l ≡ length m
pairs_length S [] [] h = refl
pairs_length S (i ∷ l) (j ∷ m) h = ap suc (pairs_length S l m h.1)
pairs_length S [] (j ∷ m) h = elim h [ ]
pairs_length S (i ∷ l) [] h = elim h [ ]

pairs_more : (S : ℕ → ℕ → Type 0) (l m : List ℕ) (i j : ℕ) → Pairs S l m → S i j → Pairs S (l ++ (i ∷ [])) (m ++ (j ∷ []))
pairs_more S [] [] i j h s = (s, tt)
pairs_more S (x ∷ l) (y ∷ m) i j h s = (h.0, pairs_more S l m i j h.1 s)
pairs_more S [] (y ∷ m) i j h s = elim h [ ]
pairs_more S (x ∷ l) [] i j h s = elim h [ ]

pub pairs_at : (S : ℕ → ℕ → Type 0) → S 0 0 → (l m : List ℕ) (k : ℕ) → Pairs S l m → S (get_or l k 0) (get_or m k 0)
pairs_at S z [] [] k h = z
pairs_at S z (i ∷ l) (j ∷ m) zero h = h.0
pairs_at S z (i ∷ l) (j ∷ m) (suc k) h = pairs_at S z l m k h.1
pairs_at S z [] (j ∷ m) k h = elim h [ ]
pairs_at S z (i ∷ l) [] k h = elim h [ ]

-- ---- numbers

judged-allowed : (a k : Bool) → judge a k ≡ none → (a ≡ true) × (k ≡ true)
judged-allowed true true e = (refl, refl)
judged-allowed true false e = let z : ◌≡◌ {A = ℕ} 0 1 = cc in absurd (omega arith)
judged-allowed false k e = let z : ◌≡◌ {A = ℕ} 0 1 = cc in absurd (omega arith)

judged_question : (a k : Bool) (question : ℕ) → judge a k ≡ some question → (4 ≤ question) × (question ≤ 5)
judged_question true true question e = let z : ◌≡◌ {A = ℕ} 0 1 = cc in absurd (omega arith)
judged_question true false question e = let z : 5 ≡ question = cc in (omega arith, omega arith)
judged_question false k question e = let z : 4 ≡ question = cc in (omega arith, omega arith)

module _ (S : ℕ → ℕ → Type 0) {A : Type 0} (R : A → A → Type 0) where
  alike_number : (allowed kept other : ℕ → Bool) {next then : ℕ → ℕ → Format A} → ((v : ℕ) → kept v ≡ other v)
      → ((v p q : ℕ) → allowed v ≡ true → kept v ≡ true → S p q → Alike S R (next v p) (then v q))
      → Alike S R (number (λ v. judge (allowed v) (kept v)) next) (number (λ v. judge (allowed v) (other v)) then)
  alike_number allowed kept other same h =
      both_ask (λ v. ap (judge (allowed v)) (same v)) (λ v. judged_question (allowed v) (kept v))
      (λ v p q e s. let j = judged-allowed (allowed v) (kept v) e in h v p q j.0 j.1 s)

  alike_value : (allowed : ℕ → Bool) {next then : ℕ → Format A} → ((v : ℕ) → allowed v ≡ true → Alike S R (next v) (then v))
      → Alike S R (field 4 allowed next) (field 4 allowed then)
  unfolding field
  alike_value allowed h = alike_number allowed (λ v. true) (λ v. true) (λ v. refl) (λ v p q a k s. h v a)

  -- A tag where none is allowed.
  alike_refused : (allowed : ℕ → Bool) {next then : ℕ → ℕ → Format A}
      → Alike S R (number (λ v. judge (allowed v) false) next) (number (λ v. judge (allowed v) false) then)
  alike_refused allowed = alike_number allowed (λ v. false) (λ v. false) (λ v. refl) (λ v p q a k s. absurd (true≢false (sym k)))

  -- ---- regexes

  abbrev Kept : ℕ → ℕ → Type 0
  Kept nodes classes = (nodes ≤ most_regex_nodes) × (classes ≤ most_classes)

  abbrev Counted : ℕ → ℕ → Regex → ℕ → ℕ → Type 0
  Counted nodes classes r n c = (n ≡ nodes + regex_nodes r) × (c ≡ classes + class_count r) × Kept n c

  abbrev ThenRegex : ℕ → ℕ → (Regex → ℕ → ℕ → Format A) → (Regex → ℕ → ℕ → Format A) → Type 0
  ThenRegex nodes classes next then = (r : Regex) (n c : ℕ) → BytesInRange r → Counted nodes classes r n c → Alike S R (next r n c) (then r n c)

  abbrev RegexAlike : ℕ → Type 0
  RegexAlike depth = (nodes classes : ℕ) (next then : Regex → ℕ → ℕ → Format A) → Kept nodes classes → ThenRegex nodes classes next then
      → Alike S R (regex_format depth nodes classes next) (regex_format depth nodes classes then)

  module _ (depth : ℕ) (rec : RegexAlike depth) (nodes classes : ℕ) (next then : Regex → ℕ → ℕ → Format A) (k : Kept nodes classes)
      (h : ThenRegex nodes classes next then) where
    two_alike : (make : Regex → Regex → Regex) → nodes + 1 ≤ most_regex_nodes
        → ((r s : Regex) → BytesInRange r → BytesInRange s → BytesInRange (make r s))
        → ((r s : Regex) → regex_nodes (make r s) ≡ 1 + (regex_nodes r + regex_nodes s))
        → ((r s : Regex) → class_count (make r s) ≡ class_count r + class_count s)
        → Alike S R (regex_format depth (nodes + 1) classes (λ r n c. regex_format depth n c (λ s. next (make r s))))
        (regex_format depth (nodes + 1) classes (λ r n c. regex_format depth n c (λ s. then (make r s))))
    two_alike make t ranges sizes counts =
        rec (nodes + 1) classes _ _ (t, k.1) (λ r n c x y. rec n c _ _ y.2 (λ s m d z w. h (make r s) m d (ranges r s x z)
        (omega (arith, sizes r s, y.0, w.0), omega (arith, counts r s, y.1, w.1), w.2)))

    tag_alike : (tag : ℕ) → between 0 4 tag ≡ true → regex_limits nodes classes tag ≡ true
        → Alike S R (after_regex_tag depth nodes classes next tag) (after_regex_tag depth nodes classes then tag)
    unfolding regex_nodes class_count
    tag_alike tag a e = by_tag tag a e
      where
        node_left : (tag : ℕ) → regex_limits nodes classes tag ≡ true → nodes + 1 ≤ most_regex_nodes
        node_left tag e =
            omega (
              arith,
              ltb-true nodes most_regex_nodes
                  (and-true-first (ltb nodes most_regex_nodes) (not (eqb tag 1) || ltb classes most_classes) e),
            )

        by_tag : (tag : ℕ) → between 0 4 tag ≡ true → regex_limits nodes classes tag ≡ true
            → Alike S R (after_regex_tag depth nodes classes next tag) (after_regex_tag depth nodes classes then tag)
        by_tag zero a e = h empty (nodes + 1) classes tt (omega arith, omega arith, (node_left 0 e, k.1))
        by_tag (suc zero) a e =
            let class_left : classes + 1 ≤ most_classes =
            omega (arith, ltb-true classes most_classes (and-true-second (ltb nodes most_regex_nodes) (ltb classes most_classes) e)) in
            alike_value (between 0 255) (λ low x. alike_value (between low 255) (λ high y.
            h (class low high) _ _ (true-between low 255 high y) (omega arith, omega arith, (node_left 1 e, class_left))))
        by_tag (suc (suc zero)) a e = two_alike concat (node_left 2 e) (λ r s x y. (x, y)) (λ r s. refl) (λ r s. refl)
        by_tag (suc (suc (suc zero))) a e = two_alike union (node_left 3 e) (λ r s x y. (x, y)) (λ r s. refl) (λ r s. refl)
        by_tag (suc (suc (suc (suc zero)))) a e =
            rec (nodes + 1) classes _ _ (node_left 4 e, k.1) (λ r n c x y. h (star r) n c x (omega (arith, y.0), omega (arith, y.1), y.2))
        by_tag (suc (suc (suc (suc (suc tag))))) a e = absurd (omega (arith, (true-between 0 4 (suc (suc (suc (suc (suc tag))))) a).1))

  regex_alike : (depth : ℕ) → RegexAlike depth
  unfolding regex_format
  regex_alike zero nodes classes next then k h = alike_refused (between 0 4)
  regex_alike (suc depth) nodes classes next then k h =
      alike_number (between 0 4) (regex_limits nodes classes) (regex_limits nodes classes) (λ v. refl)
      (λ v p q a e s. tag_alike depth (regex_alike depth) nodes classes next then k h v a e)

  -- ---- rules

  -- The rules after so many nodes and classes, and their places.
  record RulesMade (tokens count nodes classes : ℕ) (rs : List Rule) (p q : List ℕ) : Type 0 where
    many : length rs ≡ count
    placed : length p ≡ count
    allowed : All (RuleInRange tokens) rs
    nodes_most : nodes + sum (λ r. regex_nodes r.regex) rs ≤ most_regex_nodes
    classes_most : classes + sum (λ r. class_count r.regex) rs ≤ most_classes
    places : Pairs S p q

  rules_alike : (tokens count nodes classes : ℕ) (next then : List Rule → List ℕ → Format A) → Kept nodes classes
      → ((rs : List Rule) (p q : List ℕ) → RulesMade tokens count nodes classes rs p q → Alike S R (next rs p) (then rs q))
      → Alike S R (rules_format tokens count nodes classes next) (rules_format tokens count nodes classes then)
  unfolding rules_format
  rules_alike tokens zero nodes classes next then k h =
      h [] [] [] (record { many = refl; placed = refl; allowed = tt; nodes_most = omega (arith, k.0); classes_most = omega (arith, k.1); places = tt })
  rules_alike tokens (suc count) nodes classes next then k h =
      alike_number (between 0 tokens) (λ v. true) (λ v. true) (λ v. refl) (λ action i j a e s.
      regex_alike most_regex_nodes nodes classes _ _ k (λ r n c x y. rules_alike tokens count n c _ _ y.2 (λ rs p q m.
      h (record { action = action; regex = r } ∷ rs) (i ∷ p) (j ∷ q) (record {
        many = ap suc m.many;
        placed = ap suc m.placed;
        allowed = (
          record { action_allowed = (true-between 0 tokens action a).1; bytes_allowed = x },
          m.allowed,
        );
        nodes_most = omega (arith, m.nodes_most, y.0);
        classes_most = omega (arith, m.classes_most, y.1);
        places = (s, m.places);
      }))))

  -- ---- the expression

  -- An expression after some tags, with all the tags.
  record ExpressionMade (tokens opened : ℕ) (before : List ℕ) (g : Expression) (p q : List ℕ) : Type 0 where
    closed : Closed tokens opened g
    many : length p ≡ length before + size g
    most : length p ≤ most_expression_nodes
    places : Pairs S p q

  abbrev ThenExpression : ℕ → ℕ → List ℕ → (Expression → List ℕ → Format A) → (Expression → List ℕ → Format A) → Type 0
  ThenExpression tokens opened before next then = (g : Expression) (p q : List ℕ) → ExpressionMade tokens opened before g p q
      → Alike S R (next g p) (then g q)

  abbrev ExpressionAlike : ℕ → ℕ → Type 0
  ExpressionAlike tokens depth = (opened : ℕ) (p q : List ℕ) (next then : Expression → List ℕ → Format A) → length p ≤ most_expression_nodes
      → Pairs S p q → ThenExpression tokens opened p next then
      → Alike S R (expression_format depth tokens opened p next) (expression_format depth tokens opened q then)

  module _ (tokens depth : ℕ) (rec : ExpressionAlike tokens depth) (opened : ℕ) (before p q : List ℕ) (next then : Expression → List ℕ → Format A)
      (l : length p ≡ suc (length before)) (m : length p ≤ most_expression_nodes) (s : Pairs S p q)
      (h : ThenExpression tokens opened before next then) where
    leaf_alike : (g : Expression) → Closed tokens opened g → size g ≡ 1 → Alike S R (next g p) (then g q)
    leaf_alike g c n = h g p q (record { closed = c; many = omega arith; most = m; places = s })

    pair_alike : (make : Expression → Expression → Expression)
        → ((f g : Expression) → Closed tokens opened f → Closed tokens opened g → Closed tokens opened (make f g))
        → ((f g : Expression) → size (make f g) ≡ 1 + (size f + size g))
        → Alike S R (expression_format depth tokens opened p (λ f i. expression_format depth tokens opened i (λ g j. next (make f g) j)))
        (expression_format depth tokens opened q (λ f i. expression_format depth tokens opened i (λ g j. then (make f g) j)))
    pair_alike make closed sizes =
        rec opened p q _ _ m s (λ f i j a. rec opened i j _ _ a.most a.places (λ g x y b. h (make f g) x y (record {
          closed = closed f g a.closed b.closed;
          many = omega (arith, sizes f g, a.many, b.many);
          most = b.most;
          places = b.places;
        })))

    single_alike : (inside : ℕ) (make : Expression → Expression) → ((g : Expression) → Closed tokens inside g → Closed tokens opened (make g))
        → ((g : Expression) → size (make g) ≡ 1 + size g)
        → Alike S R (expression_format depth tokens inside p (λ g i. next (make g) i))
        (expression_format depth tokens inside q (λ g i. then (make g) i))
    single_alike inside make closed sizes =
        rec inside p q _ _ m s (λ g i j a. h (make g) i j (record {
          closed = closed g a.closed;
          many = omega (arith, sizes g, a.many);
          most = a.most;
          places = a.places;
        }))

    node_alike : (tag : ℕ) → between 0 7 tag ≡ true
        → Alike S R (after_expression_tag depth tokens opened p next tag)
        (after_expression_tag depth tokens opened q then tag)
    unfolding size
    node_alike zero a = leaf_alike epsilon tt refl
    node_alike (suc zero) a = leaf_alike bottom tt refl
    node_alike (suc (suc zero)) a = alike_value (λ k. ltb k tokens) (λ k e. leaf_alike (token k) (ltb-true k tokens e) refl)
    node_alike (suc (suc (suc zero))) a = pair_alike sequence (λ f g x y. (x, y)) (λ f g. refl)
    node_alike (suc (suc (suc (suc zero)))) a = pair_alike alternative (λ f g x y. (x, y)) (λ f g. refl)
    node_alike (suc (suc (suc (suc (suc zero))))) a = single_alike (suc opened) fixed_point (λ g c. c) (λ g. refl)
    node_alike (suc (suc (suc (suc (suc (suc zero)))))) a =
        alike_value (λ n. ltb n opened) (λ n e. leaf_alike (variable n) (ltb-true n opened e) refl)
    node_alike (suc (suc (suc (suc (suc (suc (suc zero))))))) a = single_alike opened repetition (λ g c. c) (λ g. refl)
    node_alike (suc (suc (suc (suc (suc (suc (suc (suc tag)))))))) a =
        absurd (omega (arith, (true-between 0 7 (suc (suc (suc (suc (suc (suc (suc (suc tag)))))))) a).1))

  expression_alike : (tokens depth : ℕ) → ExpressionAlike tokens depth
  unfolding expression_format
  expression_alike tokens zero opened p q next then m s h = alike_refused (between 0 7)
  expression_alike tokens (suc depth) opened p q next then m s h =
      alike_number (between 0 7) (λ v. ltb (length p) most_expression_nodes) (λ v. ltb (length q) most_expression_nodes)
      (λ v. ap (λ (n : ℕ). ltb n most_expression_nodes) (pairs_length S p q s)) (λ v i j a e x.
      let more : length (p ++ (i ∷ [])) ≡ suc (length p) = omega (arith, length-append p (i ∷ [])) in
      node_alike tokens depth (expression_alike tokens depth) opened p (p ++ (i ∷ [])) (q ++ (j ∷ [])) next then more
      (omega (arith, more, ltb-true (length p) most_expression_nodes e)) (pairs_more S p q i j s x) h v a)

-- ---- the sheet

-- The same sheet, which keeps the limits, at places that correspond.
pub record SameContents (S : ℕ → ℕ → Type 0) (c d : Contents) : Type 0 where
  pub same_sheet : c.sheet ≡ d.sheet
  pub limits : WithinLimits c.sheet
  pub actions_many : length c.action_places ≡ length c.sheet.rules
  pub nodes_many : length c.node_places ≡ size c.sheet.expression
  pub actions : Pairs S c.action_places d.action_places
  pub nodes : Pairs S c.node_places d.node_places

pub sheet_alike : (S : ℕ → ℕ → Type 0) → Alike S (SameContents S) sheet_format sheet_format
unfolding sheet_format
sheet_alike S =
    alike_value S _ (between 1 1) (λ version v. alike_value S _ (between 1 most_tokens) (λ tokens t.
    alike_value S _ (between 1 most_rules) (λ count c.
    rules_alike S _ tokens count 0 0 _ _ (omega arith, omega arith) (λ rs i j r.
    expression_alike S _ tokens most_expression_nodes 0 [] [] _ _ (omega arith) tt (λ g p q x. both_made (record {
      same_sheet = refl;
      limits = record {
        tokens_least = (true-between 1 most_tokens tokens t).0;
        tokens_most = (true-between 1 most_tokens tokens t).1;
        rules_least = omega (arith, r.many, (true-between 1 most_rules count c).0);
        rules_most = omega (arith, r.many, (true-between 1 most_rules count c).1);
        rules_allowed = r.allowed;
        regex_nodes_most = omega (arith, r.nodes_most);
        classes_most = omega (arith, r.classes_most);
        closed = x.closed;
        nodes_most = omega (arith, x.many, x.most);
      };
      actions_many = r.placed ∙ sym r.many;
      nodes_many = omega (arith, x.many);
      actions = r.places;
      nodes = x.places;
    }))))))
