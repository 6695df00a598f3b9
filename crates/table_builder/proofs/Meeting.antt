-- Sets join those met: one set, and the sets that a row leads to.
use mathlib.Core.Path.{◌≡◌, refl, sym, ap, ◌∙◌}
use mathlib.Core.Bool.{Bool, true, false, ◌||◌, cond}
use mathlib.Core.List.Memᴰ
use mathlib.Core.List.{List, [], ◌∷◌, ◌++◌, map}
use mathlib.Core.Logic.{⊎_elim}
use Prim.Native.Nat.{ℕ, zero, suc, ◌+◌, ◌≤◌, ◌<◌}
use native.Mathlib.Omega.{arith}
use native.Mathlib.Nat.{not-suc-le-zero}
use native.Mathlib.Numerals.{add-one}
use lib.Bits.{bit_and}
use lib.Dec.{eqb}
use lib.ListN.{get_or, length, take, drop, set, length-append, length-take}
use lib.Seq.{get_or-take, take-suc-set, length-take-le}
use borrow.Author.Tests.{eq-eqb, ne_eqb}
use Rattle.basics.proofs.laws.Members.{all-append}
use Rattle.basics.proofs.laws.Order.{lt-or-le}
use Rattle.basics.proofs.laws.Truth.{holds_true, true_holds}
use Rattle.basics.specs.Meeting.{is_met, meet, meet_all, number_of}
use Rattle.basics.specs.laws.MeetingLaws.{Met}
use Rattle.basics.proofs.laws.MeetingLaws.{meet_all_has, number_below}
use Rattle.basics.proofs.laws.Reaching.{meet_all-append}
use Rattle.lexer.specs.Table.{most_rows, bytes_from}
use Rattle.table_builder.specs.Rows.{AllHeld, RowsHeld, all_held, too_many, sets_by}

-- ---- a set's place

-- The place of a number among those from i on.
place_step : (l : List ℕ) (n i : ℕ) → i < length l → number_of (drop i l) n ≡ cond (eqb (get_or l i 0) n) 0 (suc (number_of (drop (suc i) l) n))
unfolding number_of
place_step [] n i h = absurd (not-suc-le-zero h)
place_step (m ∷ l) n zero h = refl
place_step (m ∷ l) n (suc i) h = place_step l n i (omega arith)

place_end : (l : List ℕ) (n i : ℕ) → length l ≤ i → number_of (drop i l) n ≡ 0
unfolding number_of
place_end [] n zero h = refl
place_end [] n (suc i) h = refl
place_end (m ∷ l) n zero h = absurd (not-suc-le-zero h)
place_end (m ∷ l) n (suc i) h = place_end l n i (omega arith)

module _ (sets : List ℕ) (count n i : ℕ) (long : count ≤ length sets) where
  pub place_here : i < count → get_or sets i 0 ≡ n → number_of (drop i (take count sets)) n ≡ 0
  place_here h e =
      place_step (take count sets) n i (omega (arith, h, length-take-le count sets long))
      ∙ rw (get_or-take count sets i 0 h, eq-eqb (get_or sets i 0) n e)

  pub place_later : i < count → (get_or sets i 0 ≡ n → ⊥) → number_of (drop i (take count sets)) n ≡ suc (number_of (drop (i + 1) (take count sets)) n)
  place_later h e =
      place_step (take count sets) n i (omega (arith, h, length-take-le count sets long))
      ∙ rw (get_or-take count sets i 0 h, ne_eqb (get_or sets i 0) n e, add-one)

  pub place_none : count ≤ i → number_of (drop i (take count sets)) n ≡ 0
  place_none h = place_end (take count sets) n i (omega (arith, h, length-take-le count sets long))

pub place_most : (l : List ℕ) (n : ℕ) → number_of l n ≤ length l
unfolding number_of
place_most [] n = omega arith
place_most (m ∷ l) n = go (eqb m n) (place_most l n)
  where
    go : (b : Bool) → number_of l n ≤ length l → cond b 0 (suc (number_of l n)) ≤ suc (length l)
    go true h = omega arith
    go false h = omega arith

-- A number whose place is within the list has been met; another has not.
placed_met : (l : List ℕ) (n : ℕ) → number_of l n < length l → is_met n l ≡ true
unfolding number_of is_met
placed_met [] n h = absurd (not-suc-le-zero h)
placed_met (m ∷ l) n h = go (eqb m n) h (λ k. placed_met l n k)
  where
    go : (b : Bool) → cond b 0 (suc (number_of l n)) < suc (length l) → (number_of l n < length l → is_met n l ≡ true) → (b || is_met n l) ≡ true
    go true k f = refl
    go false k f = f (omega arith)

placed_new : (l : List ℕ) (n : ℕ) → length l ≤ number_of l n → is_met n l ≡ false
placed_new l n h = go (is_met n l) refl
  where
    go : (b : Bool) → is_met n l ≡ b → b ≡ false
    go false e = refl
    go true e = let k = (number_below n l (true_holds (is_met n l) e)).0 in absurd (omega arith)

-- ---- one set

meet_met : (met : List ℕ) (n : ℕ) → is_met n met ≡ true → meet met n ≡ met
unfolding meet
meet_met met n e = rw e

meet_new : (met : List ℕ) (n : ℕ) → is_met n met ≡ false → meet met n ≡ met ++ (n ∷ [])
unfolding meet
meet_new met n e = rw e

meet-longer : (met : List ℕ) (n : ℕ) → length met ≤ length (meet met n)
unfolding meet
meet-longer met n = go (is_met n met)
  where
    go : (b : Bool) → length met ≤ length (cond b met (met ++ (n ∷ [])))
    go true = omega arith
    go false = omega (arith, length-append met (n ∷ []))

met_later : (start n : ℕ) (l : List ℕ) (b : Bool) → n < start → is_met n l ≡ b → is_met n (start ∷ l) ≡ b
unfolding is_met
met_later start n l b h e = rw (ne_eqb start n (λ q. absurd (omega arith))) e

module _ (sets : List ℕ) (count n start : ℕ) (met : List ℕ) (below : n < start) (long : count ≤ length sets)
    (held : RowsHeld start sets count met) where
  pub met_before : number_of (take count sets) n < count → RowsHeld start sets count (meet met n)
  met_before h = go held
    where
      go : RowsHeld start sets count met → RowsHeld start sets count (meet met n)
      go (all_held h') =
          let few = h'.few in
          let small = h'.below in
          let e = h'.whole in
          let size = length-take-le count sets long in
          let m : is_met n met ≡ true =
          ap (is_met n) e ∙ met_later start n (take count sets) true below (placed_met (take count sets) n (omega arith)) in
          all_held (record { few = few; below = small; whole = meet_met met n m ∙ e })
      go (too_many full many) = too_many full (let l = meet-longer met n in omega arith)

  pub met_over : most_rows ≤ count → RowsHeld start sets count (meet met n)
  met_over h = go held
    where
      go : RowsHeld start sets count met → RowsHeld start sets count (meet met n)
      go (all_held h') = let few = h'.few in absurd (omega arith)
      go (too_many full many) = too_many full (let l = meet-longer met n in omega arith)

  pub met_new : count ≤ number_of (take count sets) n → count < most_rows → count < length sets
      → RowsHeld start (set sets count n) (count + 1) (meet met n)
  met_new h room inside = go held
    where
      go : RowsHeld start sets count met → RowsHeld start (set sets count n) (count + 1) (meet met n)
      go (too_many full many) = absurd (omega arith)
      go (all_held h') =
          let few = h'.few in
          let small = h'.below in
          let e = h'.whole in
          let size = length-take-le count sets long in
          let new : is_met n met ≡ false =
          ap (is_met n) e ∙ met_later start n (take count sets) false below (placed_new (take count sets) n (omega arith)) in
          let more : take (count + 1) (set sets count n) ≡ take count sets ++ (n ∷ []) = rw add-one (take-suc-set sets count n inside) in
          let whole : meet met n ≡ start ∷ (take count sets ++ (n ∷ [])) = meet_new met n new ∙ ap (λ (l : List ℕ). l ++ (n ∷ [])) e in
          ⊎_elim
          (λ k. all_held (record {
            few = k;
            below = rw more (all-append (λ x. x < start) (take count sets) (n ∷ []) small (below, tt));
            whole = whole ∙ ap (λ (l : List ℕ). start ∷ l) (sym more);
          }))
          (λ k. too_many (omega arith)
          (omega (arith, ap length whole, length-append (take count sets) (n ∷ []))))
          (lt-or-le (count + 1) most_rows)

-- ---- whether there are more than 256 rows

pub few_rows : (start : ℕ) (sets : List ℕ) (count : ℕ) (met : List ℕ) → count < most_rows → RowsHeld start sets count met
    → AllHeld start sets count met × (length met ≤ most_rows)
few_rows start sets count met few (all_held h) = (h, omega (arith, ap length h.whole, length-take count sets))
few_rows start sets count met few (too_many full many) = absurd (omega arith)

pub many_rows : (start : ℕ) (sets : List ℕ) (count : ℕ) (met : List ℕ) → most_rows ≤ count → RowsHeld start sets count met → most_rows < length met
many_rows start sets count met full (all_held h) = let few = h.few in absurd (omega arith)
many_rows start sets count met full (too_many e many) = many

-- ---- the sets that a row leads to

bytes_more : (b n : ℕ) (f : ℕ → ℕ) → map f (bytes_from b (suc n)) ≡ map f (bytes_from b n) ++ (f (b + n) ∷ [])
unfolding bytes_from
bytes_more b zero f = ap (λ (k : ℕ). f k ∷ []) (let z : b ≡ b + 0 = omega arith in z)
bytes_more b (suc n) f =
    ap (λ (l : List ℕ). f b ∷ l)
    (bytes_more (suc b) n f ∙ ap (λ (k : ℕ). map f (bytes_from (suc b) n) ++ (f k ∷ [])) (let z : suc b + n ≡ b + suc n = omega arith in z))

pub sets_more : (classes : List ℕ) (held n : ℕ) → sets_by classes held (suc n) ≡ sets_by classes held n ++ (bit_and held (get_or classes n 0) ∷ [])
unfolding sets_by
sets_more classes held n =
    bytes_more 0 n (λ b. bit_and held (get_or classes b 0))
    ∙ ap (λ (k : ℕ). map (λ b. bit_and held (get_or classes b 0)) (bytes_from 0 n) ++ (bit_and held (get_or classes k 0) ∷ []))
    (let z : 0 + n ≡ n = omega arith in z)

meet_one : (met : List ℕ) (n : ℕ) → meet_all met (n ∷ []) ≡ meet met n
unfolding meet_all
meet_one met n = refl

-- The sets of the first `byte` bytes have joined, and `before` has been met.
pub record Joined (start : ℕ) (met classes : List ℕ) (held : ℕ) (sets : List ℕ) (count before byte : ℕ) : Type 0 where
  pub rows : RowsHeld start sets count (meet_all met (sets_by classes held byte))
  pub last_met : Met before (meet_all met (sets_by classes held byte))

module _ (start : ℕ) (met classes : List ℕ) (held : ℕ) where
  pub joined_start : (sets : List ℕ) (count : ℕ) → Met 0 met → RowsHeld start sets count met → Joined start met classes held sets count 0 0
  unfolding meet_all sets_by bytes_from
  joined_start sets count m h = record { rows = h; last_met = m }

  after_byte : (byte : ℕ) → meet_all met (sets_by classes held (byte + 1)) ≡ meet (meet_all met (sets_by classes held byte)) (bit_and held (get_or classes byte 0))
  after_byte byte =
      rw add-one (ap (meet_all met) (sets_more classes held byte)
      ∙ meet_all-append met (sets_by classes held byte) (bit_and held (get_or classes byte 0) ∷ [])
      ∙ meet_one (meet_all met (sets_by classes held byte)) (bit_and held (get_or classes byte 0)))

  -- The byte keeps what the byte before kept.
  pub joined_same : (sets : List ℕ) (count before byte : ℕ) → bit_and held (get_or classes byte 0) ≡ before
      → Joined start met classes held sets count before byte → Joined start met classes held sets count before (byte + 1)
  joined_same sets count before byte e j =
      let so_far = meet_all met (sets_by classes held byte) in
      let known : is_met (bit_and held (get_or classes byte 0)) so_far ≡ true =
      ap (λ (k : ℕ). is_met k so_far) e ∙ holds_true (is_met before so_far) j.last_met in
      let same : meet_all met (sets_by classes held (byte + 1)) ≡ so_far = after_byte byte ∙ meet_met so_far (bit_and held (get_or classes byte 0)) known in
      record { rows = rw same j.rows; last_met = rw same j.last_met }

  -- The byte keeps another set, which joins.
  pub joined_other : (sets sets' : List ℕ) (count count' before byte : ℕ)
      → (RowsHeld start sets count (meet_all met (sets_by classes held byte))
      → RowsHeld start sets' count' (meet (meet_all met (sets_by classes held byte)) (bit_and held (get_or classes byte 0))))
      → Joined start met classes held sets count before byte
      → Joined start met classes held sets' count' (bit_and held (get_or classes byte 0)) (byte + 1)
  joined_other sets sets' count count' before byte f j =
      let so_far = meet_all met (sets_by classes held byte) in
      let next = bit_and held (get_or classes byte 0) in
      record {
        rows = rw (after_byte byte) (f j.rows);
        last_met = rw (after_byte byte ∙ sym (meet_one so_far next)) (meet_all_has next so_far (next ∷ []) (Memᴰ.head refl));
      }
