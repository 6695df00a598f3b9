-- A take by the tables is a take by the image's rows, and the stack then holds what is pending.
use Rattle.std.specs.Prelude as code
use Rattle.std.specs.Prelude.{◌≡◌, Bool, cond, ltb, eqb, Some, None}
use Rattle.std.proofs.Math.Path.{refl, sym, subst}
use Rattle.std.proofs.Common.{ap, ◌∙◌, arith, length-append, ltb-true, ltb-false, eqb-true}
use Rattle.std.proofs.Math.Bool.{true, false}
use mathlib.Core.List.{List, [], ◌∷◌, ◌++◌}
use Rattle.std.proofs.Math.Option.{Option, none, some}
use Prim.Native.Nat.{ℕ, zero, suc, ◌+◌, ◌*◌, ◌<◌}
use Rattle.std.proofs.Math.ListN.{length, get_or}
use Rattle.std.proofs.lemmas.Bool.{eqb-false}
use Rattle.basics.specs.Bits.{bit}
use Rattle.basics.specs.Lists.{All}
use Rattle.normal_form.specs.Productions.{Production, Row, row_of, production_of, Taking}
use Rattle.normal_form.specs.RowNames.{taken_by}
use Rattle.image_reader.specs.Tables.{EntryTail, RowsHeld}
use Rattle.image_reader.proofs.laws.TableLaws.{entry_none, entry_some}
use Rattle.machine.specs.Trace.{taking}
use Rattle.machine_turn.specs.Stack.{stacked, pending, pushed, Ready}
use Rattle.machine_turn.specs.Steps.{taker, TakeStep, replaced, replace_taker, take_step}
use Rattle.machine_turn.specs.declared.Taker.{Taker}
use Rattle.machine_turn.specs.declared.Taken.{Taken}
use Rattle.machine_turn.specs.declared.Taken.TheVariants.{Pending, NoTaker, TooDeep}
use Rattle.machine_turn.proofs.laws.StackLaws.{pending-stacked, length-stacked, all-joined, length-pushed, pending-pushed}

-- ---- a take by the rows, one pending nonterminal a time

module _ (rows : List Row) (m : ℕ) (l : List ℕ) (rule : ℕ) where
  take_some : (p : Production) → production_of rule (row_of rows m).productions ≡ some p
      → taking rows (m ∷ l) rule ≡ some (taken_by m (p.tail ++ l))
  unfolding taking
  take_some p e = rw (e, taking)

  take_stops : production_of rule (row_of rows m).productions ≡ none → (row_of rows m).has_epsilon ≡ false
      → taking rows (m ∷ l) rule ≡ none
  unfolding taking
  take_stops e f = rw (e, f, taking)

  take_passes : production_of rule (row_of rows m).productions ≡ none → (row_of rows m).has_epsilon ≡ true
      → (o : Option Taking) → taking rows l rule ≡ o → taking rows (m ∷ l) rule ≡ o
  unfolding taking
  take_passes e f o g = rw (e, f, taking) g

-- ---- the taker

-- What is known of a taker: its entry stands for a tail, which is what a take puts before those behind the taker.
pub record TailTaken (bytes starts : List ℕ) (n : ℕ) (stack : List ℕ) (o : Option Taking) (depth below m entry : ℕ) : Type 0 where
  pub tail : List ℕ
  pub next_is : o ≡ some (taken_by m (tail ++ stacked stack below))
  pub there : EntryTail bytes (get_or starts m 0) n entry tail
  pub behind : All (λ k. k < n) (stacked stack below)
  pub under : below < depth
  pub nonterminal : m < n

abbrev TakesAs : List ℕ → List ℕ → ℕ → List ℕ → Option Taking → ℕ → code.Option Taker → Type 0
TakesAs bytes starts n stack o depth None = o ≡ none
TakesAs bytes starts n stack o depth (Some t) = TailTaken bytes starts n stack o depth t.below t.nonterminal t.entry

module _ (bytes starts productions : List ℕ) (empty : ℕ) (rows : List Row) (n : ℕ)
    (held : RowsHeld bytes n starts productions empty rows) where
  module _ (stack : List ℕ) (rule : ℕ) (small : rule < 32) where
    abbrev rows_take : ℕ → ℕ → Option Taking
    rows_take depth first = taking rows (pending stack depth first) rule

    -- A taker further back takes for those before it too.
    further : (below first : ℕ) (t : code.Option Taker) → (rows_take below (get_or stack below 0) ≡ rows_take (suc below) first)
        → TakesAs bytes starts n stack (rows_take below (get_or stack below 0)) below t
        → TakesAs bytes starts n stack (rows_take (suc below) first) (suc below) t
    further below first None e r = sym e ∙ r
    further below first (Some t) e r = record {
      tail = r.tail;
      next_is = sym e ∙ r.next_is;
      there = r.there;
      behind = r.behind;
      under = omega (arith, r.under);
      nonterminal = r.nonterminal;
    }

    at_first : (below m : ℕ) → m < n → All (λ k. k < n) (stacked stack below) → (x y : Bool)
        → eqb (get_or productions (m * 32 + rule) 0) 0 ≡ x → bit empty m ≡ y
        → (t : code.Option Taker) → TakesAs bytes starts n stack (rows_take below (get_or stack below 0)) below t
        → TakesAs bytes starts n stack (rows_take (suc below) m) (suc below)
        (cond x (cond y t None) (Some (record { below = below; nonterminal = m; entry = get_or productions (m * 32 + rule) 0 })))
    unfolding pending
    at_first below m h b false y e f t r =
        let entry = get_or productions (m * 32 + rule) 0 in
        let s = entry_some bytes (get_or starts m 0) n entry _ (held.entries m h rule small) (eqb-false entry 0 e) in
        record {
          tail = s.0.tail;
          next_is = take_some rows m (stacked stack below) rule s.0 s.1;
          there = s.2;
          behind = b;
          under = omega arith;
          nonterminal = h;
        }
    at_first below m h b true false e f t r =
        let o = entry_none bytes (get_or starts m 0) n _ _ (held.entries m h rule small) (eqb-true _ 0 e) in
        take_stops rows m (stacked stack below) rule o (sym (held.empty m) ∙ f)
    at_first below m h b true true e f t r =
        let o = entry_none bytes (get_or starts m 0) n _ _ (held.entries m h rule small) (eqb-true _ 0 e) in
        let l = stacked stack below in
        let passed = take_passes rows m l rule o (sym (held.empty m) ∙ f) (taking rows l rule) refl in
        further below m t (ap (λ (l : List ℕ). taking rows l rule) (pending-stacked stack below) ∙ sym passed) r

    pub taker_takes : (depth first : ℕ) → All (λ k. k < n) (pending stack depth first)
        → TakesAs bytes starts n stack (rows_take depth first) depth (taker productions empty stack depth first rule)
    unfolding taker pending taking
    taker_takes zero first h = refl
    taker_takes (suc below) first h =
        at_first below first h.0 h.1 (eqb (get_or productions (first * 32 + rule) 0) 0) (bit empty first) refl refl
        (taker productions empty stack below (get_or stack below 0) rule)
        (taker_takes below (get_or stack below 0) (subst (All (λ k. k < n)) (sym (pending-stacked stack below)) h.1))

-- ---- a take

-- What a take leaves, against the rows.
abbrev pub TakeLeads : List ℕ → List ℕ → List ℕ → ℕ → List Row → ℕ → List ℕ → Option Taking → List ℕ → Taken → Type 0
TakeLeads bytes starts productions empty rows n stack o stack' (Pending depth first) =
    (taker : ℕ) × (o ≡ some (taken_by taker (pending stack' depth first))) × Ready bytes starts productions empty rows n stack' depth first
    × (length stack' ≡ length stack)
TakeLeads bytes starts productions empty rows n stack o stack' NoTaker = o ≡ none
TakeLeads bytes starts productions empty rows n stack o stack' TooDeep = (t : Taking) × (o ≡ some t) × (length stack < length t.pending)

module _ (bytes starts productions : List ℕ) (empty : ℕ) (rows : List Row) (n : ℕ) (stack : List ℕ) (depth first rule : ℕ)
    (small : rule < 32) (ready : Ready bytes starts productions empty rows n stack depth first) where
  abbrev taken_by_rows : Option Taking
  taken_by_rows = taking rows (pending stack depth first) rule

  abbrev LeadsTo : TakeStep → Type 0
  LeadsTo s = TakeLeads bytes starts productions empty rows n stack taken_by_rows s.stack s.outcome

  -- A tail replaces a taker.
  module _ (below taker : ℕ) (under : below < depth) (behind : All (λ k. k < n) (stacked stack below)) where
    by_none : taken_by_rows ≡ some (taken_by taker (stacked stack below))
        → LeadsTo (record { outcome = Pending below (get_or stack below 0); stack = stack })
    by_none e =
        let same = pending-stacked stack below in (
          taker,
          e ∙ ap (λ (l : List ℕ). some (taken_by taker l)) (sym same),
          record {
            held = ready.held;
            most = ready.most;
            inside = omega (arith, under, ready.inside);
            below = subst (All (λ k. k < n)) (sym same) behind;
          },
          refl,
        )

    by_room : (m : ℕ) (tail : List ℕ) → taken_by_rows ≡ some (taken_by taker (m ∷ tail ++ stacked stack below)) → All (λ k. k < n) (m ∷ tail)
        → (b : Bool) → ltb (length stack) (suc below + length tail) ≡ b
        → LeadsTo (cond b (record { outcome = TooDeep; stack = stack })
        (record { outcome = Pending (suc below + length tail) m; stack = pushed stack (suc below) tail }))
    by_room m tail e h true t =
        let size = length-append tail (stacked stack below) in
        let low = length-stacked stack below in
        let over = ltb-true (length stack) (suc below + length tail) t in
        (taken_by taker (m ∷ tail ++ stacked stack below), e, omega (arith, size, low, over))
    by_room m tail e h false t =
        let fits = ltb-false (length stack) (suc below + length tail) t in
        let same = length-pushed stack (suc below) tail in
        let now_pending = pending-pushed stack below m tail fits in (
          taker,
          e ∙ ap (λ (l : List ℕ). some (taken_by taker l)) (sym now_pending),
          record {
            held = ready.held;
            most = ready.most;
            inside = omega (arith, fits, same);
            below = subst (All (λ k. k < n)) (sym now_pending) (all-joined n (m ∷ tail) (stacked stack below) h behind);
          },
          same,
        )

    by_tail : (tail : List ℕ) → taken_by_rows ≡ some (taken_by taker (tail ++ stacked stack below)) → All (λ k. k < n) tail
        → LeadsTo (replaced stack below tail)
    unfolding replaced
    by_tail [] e h = by_none e
    by_tail (m ∷ tail) e h = by_room m tail e h (ltb (length stack) (suc below + length tail)) refl

  by_taker : (t : code.Option Taker) → TakesAs bytes starts n stack taken_by_rows depth t → LeadsTo (replace_taker bytes starts stack t)
  unfolding replace_taker
  by_taker None r = r
  by_taker (Some t) r =
      subst (λ (l : List ℕ). LeadsTo (replaced stack t.below l)) (sym r.there.tail_is)
      (by_tail t.below t.nonterminal r.under r.behind r.tail r.next_is r.there.below)

  abbrev known_taker : TakesAs bytes starts n stack taken_by_rows depth (taker productions empty stack depth first rule)
  known_taker = taker_takes bytes starts productions empty rows n ready.held stack rule small depth first ready.below

  pub take_leads : LeadsTo (take_step bytes starts productions empty stack depth first rule)
  unfolding take_step
  take_leads = by_taker (taker productions empty stack depth first rule) known_taker

  -- What replacing a taker that was found asks.
  pub found_taker : (t : Taker) → taker productions empty stack depth first rule ≡ Some t
      → (t.below < length stack) × (t.nonterminal < 64)
      × ((tail : List ℕ) × EntryTail bytes (get_or starts t.nonterminal 0) n t.entry tail)
  found_taker t e =
      let x = subst (TakesAs bytes starts n stack taken_by_rows depth) e known_taker in
      (omega (arith, x.under, ready.inside), omega (arith, x.nonterminal, ready.most), (x.tail, x.there))
