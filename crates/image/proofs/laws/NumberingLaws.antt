-- Laws of numbering: the nodes reached begin with the start, hold each node once, are closed under tails, are no more than the
-- rows and are numbered as first met. Then the rows by number.
use Rattle.std.specs.Prelude.{◌≡◌, refl, ◌⊎◌, ℕ, zero, suc, ◌+◌, ◌≤◌, ◌<◌, get_or, length}
use Rattle.std.proofs.Common.{sym, ap, subst, ◌∙◌, ⊎_elim, arith, not-suc-le-zero}
use mathlib.Core.List.Memᴰ
use mathlib.Core.List.{List, [], ◌∷◌, ◌++◌, map, flat_map, Memᴰ}
use Rattle.std.proofs.lemmas.List.{length-map}
use Rattle.normal_form.specs.Productions.{Production, Row, no_productions, row_of}
use Rattle.basics.proofs.laws.Members.{get_or-map-inside}
use Rattle.basics.specs.Meeting.{is_met, number_of}
use Rattle.basics.specs.laws.MeetingLaws.{Met}
use Rattle.basics.proofs.laws.MeetingLaws.{Once, met-at, number_below, first_met}
use Rattle.basics.proofs.laws.DistinctMembers.{distinct_below}
use Rattle.basics.proofs.laws.Reaching.{FromEarlier, RowsDone, none_done, rows_reach, closed_rows, in_order}
use Rattle.image.specs.Numbering.{reached, renumbered, numbered}
use Rattle.image.specs.laws.NumberingLaws.{tail_members}

-- The nodes that a node's row leads to.
abbrev pub tails_of : List Row → ℕ → List ℕ
tails_of rows n = tail_members (row_of rows n).productions

-- A node's row, with tails in numbers.
abbrev pub renumbered_row : List Row → List ℕ → ℕ → Row
renumbered_row rows met n = record {
  has_epsilon = (row_of rows n).has_epsilon;
  productions = map (renumbered met) (row_of rows n).productions;
}

-- ---- the order

-- Row by row: the members of all tails of the nodes' rows, from the left.
abbrev pub row_by_row : List Row → List ℕ → List ℕ
row_by_row rows met = flat_map (λ n. flat_map (λ p. p.tail) (row_of rows n).productions) met

rows_in_order : (rows : List Row) (met : List ℕ) → flat_map (tails_of rows) met ≡ row_by_row rows met
unfolding flat_map
rows_in_order rows [] = refl
rows_in_order rows (n ∷ met) =
    ap (λ (l : List ℕ). flat_map (λ p. p.tail) (row_of rows n).productions ++ l) (rows_in_order rows met)

-- ---- the nodes reached

-- Every tail member of every row is a row's number.
abbrev pub TailsInside : List Row → Type 0
TailsInside rows = (n x : ℕ) → Memᴰ x (tail_members (row_of rows n).productions) → x < length rows

-- The nodes met are closed under the tails of their rows.
abbrev pub Closed : List Row → List ℕ → Type 0
Closed rows met = (n : ℕ) → Met n met → (x : ℕ) → Memᴰ x (tail_members (row_of rows n).productions) → Met x met

-- What is to be known of the nodes reached.
pub record Reached (rows : List Row) (met : List ℕ) : Type 0 where
  pub starts : Met 0 met
  pub start_number : number_of met 0 ≡ 0
  pub once : Once met
  pub closed : Closed rows met
  pub few : length met ≤ length rows
  -- "numbered as first met: start 0, then row by row, productions by rule, tails from the left"
  pub in_order : met ≡ first_met [] (0 ∷ row_by_row rows met)
  -- Each but the start is in a tail of one that was met before it.
  pub from_earlier : FromEarlier (tails_of rows) (0 ∷ []) met

once_start : Once (0 ∷ [])
unfolding number_of
once_start zero h = refl
once_start (suc i) h = absurd (not-suc-le-zero (let z : suc i ≤ 0 = omega arith in z))

-- The nodes reached: all rows are done, since there are no more nodes than rows.
pub reached_is : (rows : List Row) → TailsInside rows → 0 < length rows → Reached rows (reached rows)
unfolding reached
reached_is rows inside h =
    let none = none_done (tails_of rows) (0 ∷ []) (λ x. x < length rows) inside once_start (λ x m. let z = Memᴰ.eq_of_singleton m in omega arith) in
    go (rows_reach (tails_of rows) (0 ∷ []) (λ x. x < length rows) inside (length rows) 0 (0 ∷ []) none)
  where
    go : {met : List ℕ} → (j : ℕ) × RowsDone (tails_of rows) (0 ∷ []) (λ x. x < length rows) j met × ((length met ≤ j) ⊎ (0 + length rows ≤ j)) → Reached rows met
    go {met} r =
        let w = r.1 in
        let f = w.front in
        let few : length met ≤ length rows = distinct_below met (length rows) w.once w.inside in
        let all : length met ≤ r.0 = ⊎_elim (λ l. l) (λ l. omega arith) r.2 in
        let some : 0 < length met = omega (arith, ap length f.1) in
        let first : get_or met 0 0 ≡ 0 = ap (λ (l : List ℕ). get_or l 0 0) f.1 in
        record {
          starts = subst (λ (z : ℕ). Met z met) first (met-at met 0 some);
          start_number = ap (number_of met) (sym first) ∙ w.once 0 some;
          once = w.once;
          closed = closed_rows (tails_of rows) (0 ∷ []) (λ x. x < length rows) inside r.0 met w all;
          few = few;
          in_order = in_order (tails_of rows) (0 ∷ []) (λ x. x < length rows) inside r.0 met w all
              ∙ ap (λ (l : List ℕ). 0 ∷ first_met (0 ∷ []) l) (rows_in_order rows met) ∙ (unfold is_met in refl);
          from_earlier = w.from_earlier;
        }

-- ---- the rows by number

pub numbered-count : (rows : List Row) → length (numbered rows) ≡ length (reached rows)
unfolding numbered
numbered-count rows = length-map (reached rows) (renumbered_row rows (reached rows))

-- Row i is the row of the i-th node reached, its tails in numbers.
pub numbered-row : (rows : List Row) (i : ℕ) → i < length (reached rows)
    → row_of (numbered rows) i ≡ renumbered_row rows (reached rows) (get_or (reached rows) i 0)
unfolding numbered
numbered-row rows i h = get_or-map-inside (renumbered_row rows (reached rows)) (reached rows) i 0 no_productions h

-- A node's row stands at the node's number.
pub row-at-number : (rows : List Row) (n : ℕ) → Met n (reached rows)
    → row_of (numbered rows) (number_of (reached rows) n) ≡ renumbered_row rows (reached rows) n
row-at-number rows n t =
    let b = number_below n (reached rows) t in
    numbered-row rows (number_of (reached rows) n) b.0 ∙ ap (renumbered_row rows (reached rows)) b.1

-- A member of a production's tail is among the row's tail members, and the other way.
pub tail_member : (p : Production) (x : ℕ) (ps : List Production) → Memᴰ p ps → Memᴰ x p.tail → Memᴰ x (tail_members ps)
unfolding flat_map
tail_member p x [] m k = absurd (Memᴰ.not-nil m)
tail_member p x (q ∷ ps) m k =
    ⊎_elim (λ e. Memᴰ.append_left (tail_members ps) (subst (λ (z : Production). Memᴰ x z.tail) e k))
    (λ h. Memᴰ.append_right q.tail (tail_member p x ps h k)) (Memᴰ.cases_cons m)

pub of_tail_members : (x : ℕ) (ps : List Production) → Memᴰ x (tail_members ps)
    → (p : Production) × Memᴰ p ps × Memᴰ x p.tail
unfolding flat_map
of_tail_members x [] m = absurd (Memᴰ.not-nil m)
of_tail_members x (q ∷ ps) m =
    ⊎_elim (λ k. (q, Memᴰ.head refl, k)) (λ k. let r = of_tail_members x ps k in (r.0, Memᴰ.tail r.1, r.2))
    (Memᴰ.append_cases q.tail m)
