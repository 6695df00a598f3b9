-- What meeting row by row leads to: those met stay in front, stand once each, in the order in which they are first met, and once every row
-- is done, all that a row leads to has been met.
use Rattle.std.proofs.Math.Path.{◌≡◌, refl, sym, ap}
use Rattle.std.proofs.Common.{subst, ◌∙◌, not-suc-le-zero, take-suc, take_all, get_or-append-add, ltb-true, ltb-false, lt-ltb, le-ltb}
use Rattle.std.specs.Prelude.{Bool, cond, ◌⊎◌, get_or, take}
use Rattle.std.proofs.Math.Bool.{true, false}
use mathlib.Core.List.Memᴰ
use mathlib.Core.List.{List, [], ◌∷◌, ◌++◌, append_assoc, append-nil, flat_map, Memᴰ}
use Rattle.std.proofs.Math.Logic.{inl, inr, ⊎_elim}
use Prim.Native.Nat.{ℕ, zero, suc, ◌+◌, ◌-◌, ◌≤◌, ◌<◌}
use native.Mathlib.Omega.{arith}
use Rattle.std.proofs.Math.Decide.{ℕ_discrete}
use Rattle.std.proofs.Math.Dec.{ltb}
use Rattle.std.proofs.Math.ListN.{length, length-append, get_or-append}
use Rattle.std.proofs.lemmas.List.{take-append-le}
use Rattle.basics.proofs.laws.Members.{member_at}
use Rattle.basics.proofs.laws.Order.{lt-or-le}
use Rattle.basics.specs.Meeting.{meet, meet_all, meet_rows, number_of}
use Rattle.basics.specs.laws.MeetingLaws.{Met}
use Rattle.basics.proofs.laws.MeetingLaws.{Once, meet_all_has, meet_all_keeps, once_meet_all, number_below, first_met, first_met_member, meet_all_order}

-- ---- one row

pub meet_all-append : (met a b : List ℕ) → meet_all met (a ++ b) ≡ meet_all (meet_all met a) b
unfolding meet_all
meet_all-append met [] b = refl
meet_all-append met (n ∷ a) b = meet_all-append (meet met n) a b

-- Those met stay at their places.
pub meet_all-at : (met l : List ℕ) (z : ℕ) → z < length met → get_or (meet_all met l) z 0 ≡ get_or met z 0
meet_all-at met l z h = ap (λ (k : List ℕ). get_or k z 0) (meet_all_order met l) ∙ get_or-append met (first_met met l) 0 z h

-- ---- rows

module _ (row : ℕ → List ℕ) where
  pub row_done : (k i : ℕ) (met : List ℕ) → i < length met
      → meet_rows row (suc k) i met ≡ meet_rows row k (suc i) (meet_all met (row (get_or met i 0)))
  unfolding meet_rows
  row_done k i met l = rw (lt-ltb i (length met) l)

  pub rows_done : (k i : ℕ) (met : List ℕ) → length met ≤ i → meet_rows row k i met ≡ met
  unfolding meet_rows
  rows_done zero i met l = refl
  rows_done (suc k) i met l = rw (le-ltb i (length met) l)

  -- Those met stay in front.
  pub rows-more : (k i : ℕ) (met : List ℕ) → (more : List ℕ) × (meet_rows row k i met ≡ met ++ more)
  unfolding meet_rows
  rows-more zero i met = ([], sym (append-nil met))
  rows-more (suc k) i met =
      let new = row (get_or met i 0) in
      go new (ltb i (length met)) (rows-more k (suc i) (meet_all met new))
    where
      go : (new : List ℕ) (b : Bool) → (more : List ℕ) × (meet_rows row k (suc i) (meet_all met new) ≡ meet_all met new ++ more)
          → (more : List ℕ) × (cond b (meet_rows row k (suc i) (meet_all met new)) met ≡ met ++ more)
      go new true r = (
        first_met met new ++ r.0,
        r.1 ∙ ap (λ (l : List ℕ). l ++ r.0) (meet_all_order met new) ∙ append_assoc met (first_met met new) r.0,
      )
      go new false r = ([], sym (append-nil met))

  -- More rows change nothing where all rows are done, and otherwise only add.
  pub enough_rows : (k n i : ℕ) (met : List ℕ) → k ≤ n → length (meet_rows row k i met) ≤ i + k → meet_rows row n i met ≡ meet_rows row k i met
  unfolding meet_rows
  enough_rows zero n i met l h = rows_done n i met (omega arith)
  enough_rows (suc k) zero i met l h = absurd (not-suc-le-zero l)
  enough_rows (suc k) (suc n) i met l h =
      go (meet_all met (row (get_or met i 0))) (ltb i (length met))
      (λ g. enough_rows k n (suc i) (meet_all met (row (get_or met i 0))) (omega arith) (omega arith)) h
    where
      go : (next : List ℕ) (b : Bool)
          → (length (meet_rows row k (suc i) next) ≤ i + suc k → meet_rows row n (suc i) next ≡ meet_rows row k (suc i) next)
          → length (cond b (meet_rows row k (suc i) next) met) ≤ i + suc k
          → ◌≡◌ {A = List ℕ} (cond b (meet_rows row n (suc i) next) met) (cond b (meet_rows row k (suc i) next) met)
      go next true f g = f g
      go next false f g = refl

  pub further_rows : (k n i : ℕ) (met : List ℕ) → k ≤ n → length (meet_rows row k i met) ≤ length (meet_rows row n i met)
  unfolding meet_rows
  further_rows zero n i met l = let r = rows-more n i met in omega (arith, ap length r.1, length-append met r.0)
  further_rows (suc k) zero i met l = absurd (not-suc-le-zero l)
  further_rows (suc k) (suc n) i met l =
      go (meet_all met (row (get_or met i 0))) (ltb i (length met))
      (further_rows k n (suc i) (meet_all met (row (get_or met i 0))) (omega arith))
    where
      go : (next : List ℕ) (b : Bool) → length (meet_rows row k (suc i) next) ≤ length (meet_rows row n (suc i) next)
          → length (cond b (meet_rows row k (suc i) next) met) ≤ length (cond b (meet_rows row n (suc i) next) met)
      go next true g = g
      go next false g = omega arith

-- ---- all rows

-- Each number past the start is led to by one that was met before it.
abbrev pub FromEarlier : (ℕ → List ℕ) → List ℕ → List ℕ → Type 0
FromEarlier row start met =
    (j : ℕ) → length start ≤ j → j < length met → (k : ℕ) × (k < j) × Memᴰ (get_or met j 0) (row (get_or met k 0))

-- The rows of the first i numbers met are done. All of them have a property, where the start has it and all that a row leads to.
pub record RowsDone (row : ℕ → List ℕ) (start : List ℕ) (Inside : ℕ → Type 0) (i : ℕ) (met : List ℕ) : Type 0 where
  pub inside : (x : ℕ) → Memᴰ x met → Inside x
  pub front : (more : List ℕ) × (met ≡ start ++ more)
  pub once : Once met
  pub done : (j : ℕ) → j < i → j < length met → (x : ℕ) → Memᴰ x (row (get_or met j 0)) → Met x met
  pub ordered : met ≡ meet_all start (flat_map row (take i met))
  pub from_earlier : FromEarlier row start met

pub flat_map-last : (row : ℕ → List ℕ) (met : List ℕ) (n : ℕ) → flat_map row (met ++ (n ∷ [])) ≡ flat_map row met ++ row n
unfolding flat_map
flat_map-last row [] n = append-nil (row n)
flat_map-last row (m ∷ met) n = ap (λ (l : List ℕ). row m ++ l) (flat_map-last row met n) ∙ sym (append_assoc (row m) (flat_map row met) (row n))

module _ (row : ℕ → List ℕ) (start : List ℕ) (Inside : ℕ → Type 0) (leads : (n x : ℕ) → Memᴰ x (row n) → Inside x) where
  abbrev new_at : List ℕ → ℕ → List ℕ
  new_at met i = row (get_or met i 0)

  next_done : (i : ℕ) (met : List ℕ) → i < length met → RowsDone row start Inside i met
      → (j : ℕ) → j < suc i → (x : ℕ) → Memᴰ x (row (get_or (meet_all met (new_at met i)) j 0)) → Met x (meet_all met (new_at met i))
  next_done i met h d j l x m = elim (ℕ_discrete j i) [ yes e ↦ here e | no e ↦ before (omega arith) ]
    where
      here : j ≡ i → Met x (meet_all met (new_at met i))
      here e =
          meet_all_has x met (new_at met i)
          (subst (λ (z : ℕ). Memᴰ x (row z))
          (ap (λ (z : ℕ). get_or (meet_all met (new_at met i)) z 0) e ∙ meet_all-at met (new_at met i) i h) m)

      before : j < i → Met x (meet_all met (new_at met i))
      before b =
          meet_all_keeps x met (new_at met i)
          (d.done j b (omega arith) x (subst (λ (z : ℕ). Memᴰ x (row z)) (meet_all-at met (new_at met i) j (omega arith)) m))

  next_ordered : (i : ℕ) (met : List ℕ) → i < length met → met ≡ meet_all start (flat_map row (take i met))
      → meet_all met (new_at met i) ≡ meet_all start (flat_map row (take (suc i) (meet_all met (new_at met i))))
  next_ordered i met h e =
      let first : take (suc i) (meet_all met (new_at met i)) ≡ take i met ++ (get_or met i 0 ∷ []) =
      ap (take (suc i)) (meet_all_order met (new_at met i)) ∙ take-append-le (suc i) met (first_met met (new_at met i)) h
      ∙ take-suc met i 0 h in
      ap (λ (l : List ℕ). meet_all l (new_at met i)) e
      ∙ sym (meet_all-append start (flat_map row (take i met)) (new_at met i))
      ∙ ap (meet_all start) (sym (ap (flat_map row) first ∙ flat_map-last row (take i met) (get_or met i 0)))

  next_earlier : (i : ℕ) (met : List ℕ) → i < length met → FromEarlier row start met → FromEarlier row start (meet_all met (new_at met i))
  next_earlier i met h f j s l = ⊎_elim before here (lt-or-le j (length met))
    where
      before : j < length met
          → (k : ℕ) × (k < j) × Memᴰ (get_or (meet_all met (new_at met i)) j 0) (row (get_or (meet_all met (new_at met i)) k 0))
      before b =
          let r = f j s b in (
            r.0,
            r.1,
            subst (λ (z : ℕ). Memᴰ z (row (get_or (meet_all met (new_at met i)) r.0 0))) (sym (meet_all-at met (new_at met i) j b))
                (subst (λ (z : ℕ). Memᴰ (get_or met j 0) (row z))
                (sym (meet_all-at met (new_at met i) r.0 (let l' = r.1 in omega arith))) r.2),
          )

      here : length met ≤ j
          → (k : ℕ) × (k < j) × Memᴰ (get_or (meet_all met (new_at met i)) j 0) (row (get_or (meet_all met (new_at met i)) k 0))
      here b =
          let new = first_met met (new_at met i) in
          let e = meet_all_order met (new_at met i) in
          let same : get_or (meet_all met (new_at met i)) j 0 ≡ get_or new (j - length met) 0 =
          ap (λ (z : List ℕ). get_or z j 0) e
          ∙ ap (λ (z : ℕ). get_or (met ++ new) z 0) (let z : j ≡ length met + (j - length met) = omega arith in z)
          ∙ get_or-append-add met new (j - length met) 0 in
          let inside : j - length met < length new = omega (arith, ap length e, length-append met new) in (
            i,
            omega arith,
            subst (λ (z : ℕ). Memᴰ z (row (get_or (meet_all met (new_at met i)) i 0))) (sym same)
                (subst (λ (z : ℕ). Memᴰ (get_or new (j - length met) 0) (row z)) (sym (meet_all-at met (new_at met i) i h))
                (first_met_member met (new_at met i) (get_or new (j - length met) 0) (member_at new (j - length met) 0 inside))),
          )

  next_row : (i : ℕ) (met : List ℕ) → i < length met → RowsDone row start Inside i met
      → RowsDone row start Inside (suc i) (meet_all met (new_at met i))
  next_row i met h w =
      let e = meet_all_order met (new_at met i) in
      let f = w.front in record {
        inside = λ x m. ⊎_elim (λ k. w.inside x k) (λ k. leads (get_or met i 0) x (first_met_member met (new_at met i) x k))
            (Memᴰ.append_cases met (subst (Memᴰ x) e m));
        front = (
          f.0 ++ first_met met (new_at met i),
          e ∙ ap (λ (l : List ℕ). l ++ first_met met (new_at met i)) f.1 ∙ append_assoc start f.0 (first_met met (new_at met i)),
        );
        once = once_meet_all met (new_at met i) w.once;
        done = λ j l k x m. next_done i met h w j l x m;
        ordered = next_ordered i met h w.ordered;
        from_earlier = next_earlier i met h w.from_earlier;
      }

  -- So many rows later all rows are done, or so many more.
  pub rows_reach : (k i : ℕ) (met : List ℕ) → RowsDone row start Inside i met
      → (j : ℕ) × RowsDone row start Inside j (meet_rows row k i met) × ((length (meet_rows row k i met) ≤ j) ⊎ (i + k ≤ j))
  unfolding meet_rows
  rows_reach zero i met w = (i, w, inr (omega arith))
  rows_reach (suc k) i met w = go (λ met' w'. rows_reach k (suc i) met' w') (ltb i (length met)) refl
    where
      go : ((met' : List ℕ) → RowsDone row start Inside (suc i) met'
          → (j : ℕ) × RowsDone row start Inside j (meet_rows row k (suc i) met')
          × ((length (meet_rows row k (suc i) met') ≤ j) ⊎ (suc i + k ≤ j)))
          → (b : Bool) → ltb i (length met) ≡ b
          → (j : ℕ) × RowsDone row start Inside j (cond b (meet_rows row k (suc i) (meet_all met (new_at met i))) met)
          × ((length (cond b (meet_rows row k (suc i) (meet_all met (new_at met i))) met) ≤ j) ⊎ (i + suc k ≤ j))
      go ih true e =
          let r = ih (meet_all met (new_at met i)) (next_row i met (ltb-true i (length met) e) w) in
          (r.0, r.1, ⊎_elim (λ l. inl l) (λ l. inr (omega arith)) r.2)
      go ih false e = (i, w, inl (ltb-false i (length met) e))

  -- At the start no row is done.
  pub none_done : Once start → ((x : ℕ) → Memᴰ x start → Inside x) → RowsDone row start Inside 0 start
  none_done once all = record {
    inside = all;
    front = ([], sym (append-nil start));
    once = once;
    done = λ j l k x m. absurd (not-suc-le-zero l);
    ordered = unfold meet_all flat_map in refl;
    from_earlier = λ j s l. absurd (omega arith);
  }

  -- Where all rows are done, those met are closed under their rows.
  pub closed_rows : (j : ℕ) (met : List ℕ) → RowsDone row start Inside j met → length met ≤ j
      → (n : ℕ) → Met n met → (x : ℕ) → Memᴰ x (row n) → Met x met
  closed_rows j met w all n t x m =
      let b = number_below n met t in
      w.done (number_of met n) (let l = b.0 in omega arith) b.0 x (subst (λ (z : ℕ). Memᴰ x (row z)) (sym b.1) m)

  -- And they stand in the order in which the start and their rows meet them first.
  pub in_order : (j : ℕ) (met : List ℕ) → RowsDone row start Inside j met → length met ≤ j
      → met ≡ start ++ first_met start (flat_map row met)
  in_order j met w all =
      w.ordered ∙ ap (λ (l : List ℕ). meet_all start (flat_map row l)) (take_all j met all) ∙ meet_all_order start (flat_map row met)
