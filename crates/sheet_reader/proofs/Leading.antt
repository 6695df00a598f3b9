-- A loop's invariant: whatever answers the rest, from the columns so far, answers the whole. And what an answer tells of what was read.
use mathlib.Core.Path.{◌≡◌, refl, sym, ap, ◌∙◌}
use mathlib.Core.List.{List, [], ◌∷◌}
use Prim.Native.Nat.{ℕ, ◌≤◌}
use native.Mathlib.Omega.{arith}
use Rattle.std.specs.Prelude.{Result}
use Rattle.sheet.specs.Field.{Reading, stop, got, and_then}
use Rattle.sheet_reader.specs.Put.{with_all}
use Rattle.sheet_reader.specs.Answers.{Says, Answers}
use Rattle.sheet_reader.proofs.Told.{told_stop, told_value, told_next}
use Rattle.sheet_reader.specs.declared.Refusal.{Refusal}
use Rattle.sheet_reader.specs.declared.Got.{Got}
use Rattle.sheet_reader.specs.Reads.{refused}
use Rattle.sheet_reader.specs.Turns.{was_got}

-- One thing in front of the others.
abbrev pub in_front : {A : Type 0} → A → List A → ℕ → Reading (List A)
in_front a l end = got (a ∷ l) end

pub record Leads {A C : Type 0} (put : C → A → C) (most : ℕ) (rest : Reading (List A)) (c : C) (whole : Reading (List A)) (start : C)
    : Type 0 where
  pub leads : {r : Result (Got C) Refusal} → Answers (with_all put) most rest c r → Answers (with_all put) most whole start r

module _ {A C : Type 0} {put : C → A → C} {most : ℕ} where
  pub leads_start : {m whole : Reading (List A)} {c start : C} → m ≡ whole → c ≡ start → Leads put most m c whole start
  leads_start e h = rw (e, h) record { leads = λ k. k }

  module _ {m : Reading (List A)} {c : C} {whole : Reading (List A)} {start : C} (l : Leads put most m c whole start) where
    -- One more was read, and the rest is still to come.
    pub leads_next : {rest : Reading (List A)} {a : A} {p : C} → m ≡ and_then rest (in_front a) → p ≡ put c a
        → Leads put most rest p whole start
    unfolding with_all
    leads_next {rest} {a} {p} e h = record { leads = λ {r} k. l.leads (rw e record { says = go rest r (rw h at k.says) }) }
      where
        go : (m : Reading (List A)) (r : Result (Got C) Refusal) → Says (with_all put) most m (put c a) r
            → Says (with_all put) most (and_then m (in_front a)) c r
        go (stop q p) r k = k
        go (got rest end) r k = k

    pub leads_stop : {question place : ℕ} {r : Result (Got C) Refusal} → m ≡ stop question place → r ≡ refused question place
        → Answers (with_all put) most whole start r
    leads_stop e h = l.leads record { says = rw e h }

    pub leads_end : {at : ℕ} → m ≡ got [] at → at ≤ most → Answers (with_all put) most whole start (was_got c at)
    unfolding with_all
    leads_end e h = l.leads record { says = rw e (refl, h) }

-- ---- what an answer tells of what was read

-- What an answer with columns has read.
pub record WasRead {A C : Type 0} (put : C → A → C) (most : ℕ) (m : Reading A) (c d : C) (next : ℕ) : Type 0 where
  pub what : A
  pub read : m ≡ got what next
  pub columns : d ≡ put c what
  pub inside : next ≤ most

module _ {A C : Type 0} {put : C → A → C} {most : ℕ} {m : Reading A} {c : C} {r : Result (Got C) Refusal} (answer : Answers put most m c r) where
  pub was_read : {d : C} {next : ℕ} → r ≡ was_got d next → WasRead put most m c d next
  was_read {d} {next} e = go m answer.says
    where
      go : (n : Reading A) → Says put most n c r → WasRead put most n c d next
      go (stop q p) h = cc
      go (got a end) h =
          let same = told_next (sym h.0 ∙ e) in
          record { what = a; read = ap (got a) same; columns = told_value (sym e ∙ h.0); inside = omega (arith, h.1) }

  pub was_stopped : {question place : ℕ} → r ≡ refused question place → m ≡ stop question place
  was_stopped {question} {place} e = go m answer.says
    where
      go : (n : Reading A) → Says put most n c r → n ≡ stop question place
      go (stop q p) h = told_stop (sym h ∙ e)
      go (got a end) h = let h0 = h.0 in cc
