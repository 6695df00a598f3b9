-- The walk finds the longest match: over a sheet's own positions the longest front of the text that is a word of any rule, and the
-- lowest rule that has it; over any positions at least a front of the text and a rule of some position.
use Rattle.std.specs.Prelude.{◌≡◌, refl, List, [], ◌∷◌, ◌↔◌, ℕ, zero, suc, ◌+◌, ◌≤◌, ◌<◌, length, take}
use Rattle.std.proofs.Common.{sym, ap₂, subst, ⊎_elim, zero-add, add-zero, add-one}
use Rattle.std.proofs.Math.Logic.Iff
use Rattle.std.proofs.Math.Option.{Option, none, some}
use native.Mathlib.Omega.{arith}
use Rattle.basics.specs.Lists.{All}
use Rattle.basics.proofs.laws.Order.{compare_cases}
use Rattle.sheet.specs.Sheet.{Rule}
use Rattle.lexer.specs.Words.{WordOf}
use Rattle.lexer.specs.RuleOrder.{Order, by_number}
use Rattle.lexer.specs.LongestMatch.{LongestMatch, NoMatch}
use Rattle.lexer.proofs.laws.RuleOrderLaws.{one_wins, lower-number}
use Rattle.lexer.specs.Positions.{Position, positions, first_positions, empty_match}
use Rattle.lexer.specs.Match.{Match, no_match, matched, longer}
use Rattle.lexer.specs.Walk.{keep, follows, ended_rule, walk, longest_match}
use Rattle.lexer.proofs.laws.EmptyWord.{none_empty}
use Rattle.lexer.proofs.laws.Chains.{after_end}
use Rattle.lexer.proofs.laws.PositionList.{PositionAt, all-at, Takes}
use Rattle.lexer.proofs.laws.Least.{LeastOf, least_iff}
use Rattle.lexer.proofs.laws.WalkLaws.{EndsRule, ended-least, of_positions, Matches, one_step, more-steps}
use Rattle.lexer.proofs.laws.WalkLaws.{matches_right}

-- `P k n` says that the front of n bytes is a match of rule k.
module _ (P : ℕ → ℕ → Type 0) where
  -- The longest of the fronts of 1 to N bytes that match, and the lowest rule that has it; or there is none.
  abbrev pub Best : ℕ → Match → Type 0
  Best N no_match = (k n : ℕ) → 0 < n → n ≤ N → P k n → ⊥
  Best N (matched k n) =
      (0 < n) × (n ≤ N) × P k n × ((j m : ℕ) → n < m → m ≤ N → P j m → ⊥) × ((j : ℕ) → j < k → P j n → ⊥)

  at_or_below : (N m j : ℕ) → m ≤ suc N → (m ≤ N → P j m → ⊥) → (P j (suc N) → ⊥) → P j m → ⊥
  at_or_below N m j l f g h =
      ⊎_elim (λ e. f (omega arith) h) (⊎_elim (λ e. g (subst (P j) e h)) (λ e. omega arith)) (compare_cases m (suc N))

  -- One more byte: a rule that ends a match there replaces what was found before.
  best_step : (N : ℕ) (o : Option ℕ) (m : Match) → Best N m → LeastOf (λ k. P k (suc N)) o → Best (suc N) (longer o (suc N) m)
  unfolding longer
  best_step N none no_match h g = λ k n p l x. at_or_below N n k l (λ l'. h k n p l') (g k) x
  best_step N none (matched k n) h g =
      (h.0, omega (arith, h.1), h.2, (λ j m p l x. at_or_below N m j l (λ l'. h.3 j m p l') (g j) x), h.4)
  best_step N (some k) m h g = (omega arith, omega arith, g.0, (λ j m p l x. omega arith), g.1)

best_iff : (P Q : ℕ → ℕ → Type 0) (N : ℕ) → ((k n : ℕ) → 0 < n → n ≤ N → P k n ↔ Q k n) → (m : Match) → Best P N m → Best Q N m
best_iff P Q N f no_match h = λ k n p l x. h k n p l ((f k n p l).1 x)
best_iff P Q N f (matched k n) h = (
  h.0,
  h.1,
  (f k n h.0 h.1).0 h.2,
  (λ j m p l x. let z = h.0 in h.3 j m p l ((f j m (omega arith) l).1 x)),
  λ j p x. h.4 j p ((f j n h.0 h.1).1 x),
)

-- The walk over a rest of the text, with n bytes behind it.
later_steps : (ps : List Position) (held k b : ℕ) (m : ℕ) (text : List ℕ) → 0 < m → m ≤ length text
    → Matches ps (follows ps 0 (keep ps 0 held b)) k (take m text) ↔ Matches ps held k (b ∷ take m text)
later_steps ps held k b zero text p l = absurd (omega arith)
later_steps ps held k b (suc m) [] p l = absurd (omega arith)
later_steps ps held k b (suc m) (a ∷ text) p l = more-steps ps held k b a (take m text)

pub walk_best : (P : ℕ → ℕ → Type 0) (ps : List Position) (held : ℕ) (rest : List ℕ) (n : ℕ) (best : Match)
    → ((k m : ℕ) → 0 < m → m ≤ length rest → Matches ps held k (take m rest) ↔ P k (n + m))
    → Best P n best → Best P (n + length rest) (walk ps held rest n best)
unfolding walk
walk_best P ps held [] n best f h = subst (λ (N : ℕ). Best P N best) (sym (add-zero n)) h
walk_best P ps held (b ∷ text) n best f h =
    let kept = keep ps 0 held b in
    let o = ended_rule ps 0 kept in
    let now : (k : ℕ) → Matches ps held k (b ∷ []) ↔ P k (suc n) =
    λ k. subst (λ (N : ℕ). Matches ps held k (b ∷ []) ↔ P k N) (add-one n) (f k 1 (omega arith) (omega arith)) in
    let low : LeastOf (λ k. P k (suc n)) o =
    least_iff (EndsRule ps 0 kept) (λ k. P k (suc n)) (λ k. Iff.trans (one_step ps held k b) (now k)) o (ended-least ps 0 kept) in
    let later : (k m : ℕ) → 0 < m → m ≤ length text → Matches ps (follows ps 0 kept) k (take m text) ↔ P k (suc n + m) =
    λ k m p l.
    let e : n + suc m ≡ suc n + m = omega arith in
    Iff.trans (later_steps ps held k b m text p l)
    (subst (λ (N : ℕ). Matches ps held k (b ∷ take m text) ↔ P k N) e (f k (suc m) (omega arith) (omega arith))) in
    let e : suc n + length text ≡ n + suc (length text) = omega arith in
    subst (λ (N : ℕ). Best P N (walk ps (follows ps 0 kept) text (suc n) (longer o (suc n) best))) e
    (walk_best P ps (follows ps 0 kept) text (suc n) (longer o (suc n) best) later (best_step P n o best h low))

-- Over any list of positions and any set held at first.
pub match_best : (ps : List Position) (first : ℕ) (text : List ℕ)
    → Best (λ k n. Matches ps first k (take n text)) (length text) (longest_match ps first text)
unfolding longest_match
match_best ps first text =
    let P : ℕ → ℕ → Type 0 = λ k n. Matches ps first k (take n text) in
    subst (λ (N : ℕ). Best P N (walk ps first text 0 no_match)) (zero-add (length text))
    (walk_best P ps first text 0 no_match
    (λ k m p l. subst (λ (N : ℕ). P k m ↔ P k N) (sym (zero-add m)) (λ x. x, λ x. x))
    (λ k n p l x. omega arith))

-- So a match takes one byte or more of the text, and is of a rule that some position has.
abbrev pub RuleOf : List Position → ℕ → Type 0
RuleOf ps k = (j : ℕ) × (p : Position) × PositionAt ps j p × (p.rule ≡ k)

matches_rule : (ps : List Position) (first k : ℕ) (w : List ℕ) → Matches ps first k w → RuleOf ps k
matches_rule ps first k [] h = absurd h
matches_rule ps first k (b ∷ u) h =
    let e = after_end (Takes ps) (of_positions ps first k) (λ p. Unit) (λ p q i x. tt) h.0 u tt h.3 in
    (e.0, e.2.0, e.2.1, e.2.3)

pub match_within : (ps : List Position) (first : ℕ) (text : List ℕ) (k n : ℕ) → longest_match ps first text ≡ matched k n
    → (0 < n) × (n ≤ length text) × RuleOf ps k
match_within ps first text k n e =
    let h = subst (Best (λ j m. Matches ps first j (take m text)) (length text)) e (match_best ps first text) in
    (h.0, h.1, matches_rule ps first k (take n text) h.2)

pub match_rule-below : (ps : List Position) (bound : ℕ) → All (λ p. p.rule < bound) ps → (first : ℕ) (text : List ℕ) (k n : ℕ)
    → longest_match ps first text ≡ matched k n → k < bound
match_rule-below ps bound a first text k n e =
    let h = (match_within ps first text k n e).2 in
    let l : h.1.rule < bound = all-at (λ p. p.rule < bound) a h.2 in
    omega (arith, h.3)

-- Over a sheet's own positions. A front of one byte or more matches a rule just where it is a word of it.
fronts_right : (rules : List Rule) (k n : ℕ) (text : List ℕ) → 0 < n → n ≤ length text
    → Matches (positions rules) (first_positions rules) k (take n text) ↔ WordOf rules k (take n text)
fronts_right rules k zero text p l = absurd (omega arith)
fronts_right rules k (suc n) [] p l = absurd (omega arith)
fronts_right rules k (suc n) (b ∷ text) p l = matches_right rules k b (take n text)

pub words_best : (rules : List Rule) (text : List ℕ)
    → Best (λ k n. WordOf rules k (take n text)) (length text) (longest_match (positions rules) (first_positions rules) text)
words_best rules text =
    best_iff (λ k n. Matches (positions rules) (first_positions rules) k (take n text)) (λ k n. WordOf rules k (take n text)) (length text)
    (λ k n p l. fronts_right rules k n text p l)
    (longest_match (positions rules) (first_positions rules) text) (match_best (positions rules) (first_positions rules) text)

-- What a match is to be at the front of the text.
abbrev pub Right : List Rule → List ℕ → Match → Type 0
Right rules text no_match = NoMatch rules text
Right rules text (matched k n) = LongestMatch by_number rules text k n × (0 < n)

best_longest : (rules : List Rule) (text : List ℕ) (k n : ℕ) → Best (λ j m. WordOf rules j (take m text)) (length text) (matched k n)
    → LongestMatch by_number rules text k n × (0 < n)
best_longest rules text k n h =
    (record { within = h.1; matches = h.2; longest = h.3; wins = λ j w x. h.4 j (lower-number w) x }, h.0)

-- A match that is found is the longest, also where a rule matches the empty word; where none is found, no front of one byte or more
-- is a word.
pub matched_right : (rules : List Rule) (text : List ℕ) (k n : ℕ)
    → longest_match (positions rules) (first_positions rules) text ≡ matched k n
    → LongestMatch by_number rules text k n × (0 < n)
matched_right rules text k n e =
    best_longest rules text k n (subst (Best (λ j m. WordOf rules j (take m text)) (length text)) e (words_best rules text))

pub no_match_right : (rules : List Rule) (text : List ℕ) → longest_match (positions rules) (first_positions rules) text ≡ no_match
    → (k n : ℕ) → 0 < n → n ≤ length text → WordOf rules k (take n text) → ⊥
no_match_right rules text e = subst (Best (λ j m. WordOf rules j (take m text)) (length text)) e (words_best rules text)

-- The theorem: once question 7 is answered, the walk finds what is to be found.
pub match_right : (rules : List Rule) → empty_match rules 0 ≡ none → (text : List ℕ)
    → Right rules text (longest_match (positions rules) (first_positions rules) text)
match_right rules e text = go (longest_match (positions rules) (first_positions rules) text) (words_best rules text)
  where
    go : (m : Match) → Best (λ k n. WordOf rules k (take n text)) (length text) m → Right rules text m
    go no_match h = λ j m l x. front j m l x
      where
        front : (j m : ℕ) → m ≤ length text → WordOf rules j (take m text) → ⊥
        front j zero l x = (none_empty rules).0 e j x
        front j (suc m) l x = h j (suc m) (omega arith) l x
    go (matched k n) h = best_longest rules text k n h

-- Longest matches have one length, by whatever orders.
pub same_length : {order other : Order} {rules : List Rule} {text : List ℕ} {k n j m : ℕ}
    → LongestMatch order rules text k n → LongestMatch other rules text j m → n ≡ m
same_length {k = k} {n = n} {j = j} {m = m} g h =
    ⊎_elim (λ l. absurd (g.longest j m l h.within h.matches))
    (⊎_elim (λ e. e) (λ l. absurd (h.longest k n l g.within g.matches))) (compare_cases n m)

-- There is one longest match at most by an order, and none where no front is a word.
pub longest_one : {order : Order} {rules : List Rule} {text : List ℕ} {k n j m : ℕ}
    → LongestMatch order rules text k n → LongestMatch order rules text j m → (k ≡ j) × (n ≡ m)
longest_one {order} {rules} {text} {k} {n} {j} {m} g h =
    let e : n ≡ m = same_length g h in
    let f : k ≡ j =
    ⊎_elim
    (λ l. absurd (h.wins k l (subst (λ (x : ℕ). WordOf rules k (take x text)) e g.matches)))
    (⊎_elim (λ e. e) (λ l. absurd (g.wins j l (subst (λ (x : ℕ). WordOf rules j (take x text)) (sym e) h.matches))))
    (one_wins order g.matches.1 h.matches.1) in
    (f, e)

pub longest_not-none : {order : Order} {rules : List Rule} {text : List ℕ} {k n : ℕ}
    → LongestMatch order rules text k n → NoMatch rules text → ⊥
longest_not-none {k = k} {n = n} g h = h k n g.within g.matches

pub right_one : (rules : List Rule) (text : List ℕ) (a b : Match) → Right rules text a → Right rules text b → a ≡ b
right_one rules text no_match no_match g h = refl
right_one rules text no_match (matched k n) g h = absurd (longest_not-none h.0 g)
right_one rules text (matched k n) no_match g h = absurd (longest_not-none g.0 h)
right_one rules text (matched k n) (matched j m) g h = let e = longest_one g.0 h.0 in ap₂ matched e.0 e.1

-- Hence the walk's answer is given by the words alone.
pub longest_found : (rules : List Rule) → empty_match rules 0 ≡ none → (text : List ℕ) (k n : ℕ) → LongestMatch by_number rules text k n
    → longest_match (positions rules) (first_positions rules) text ≡ matched k n
longest_found rules e text k n g =
    right_one rules text (longest_match (positions rules) (first_positions rules) text) (matched k n) (match_right rules e text)
    (g, go n g.matches)
  where
    go : (m : ℕ) → WordOf rules k (take m text) → 0 < m
    go zero x = absurd ((none_empty rules).0 e k x)
    go (suc m) x = omega arith

pub none_found : (rules : List Rule) → empty_match rules 0 ≡ none → (text : List ℕ) → NoMatch rules text
    → longest_match (positions rules) (first_positions rules) text ≡ no_match
none_found rules e text g =
    right_one rules text (longest_match (positions rules) (first_positions rules) text) no_match (match_right rules e text) g
