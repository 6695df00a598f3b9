-- A run with all that it is lent: `run` gives what the relation says, and nothing else does. First how a run begins, question by question.
use Rattle.std.specs.Prelude.{◌≡◌, refl, Bool, true, false, ◌||◌, cond, List, ◌⊎◌, ◌↔◌, ℕ, ◌≤◌, ◌<◌, length, ltb}
use Rattle.std.proofs.Common.{sym, ap, ap₂, subst, ◌∙◌, true≢false, inl, inr, ⊎_elim, arith}
use Rattle.std.proofs.Math.Option.{Option, none, some}
use borrow.Author.Tests.{lt-ltb, le-ltb}
use Rattle.basics.proofs.laws.Order.{lt-or-le}
use Rattle.sheet.specs.Field.{Reading, stop, got}
use Rattle.sheet.proofs.laws.FieldLaws.{Bytes}
use Rattle.lexer.specs.Table.{most_rows}
use Rattle.image.specs.Image.{Image}
use Rattle.image.specs.ImageReading.{read_image}
use Rattle.image.proofs.laws.ReadableImages.{read_refusal, first-offence_one, stop_offends, read_readable, readable_read}
use Rattle.machine.specs.Lent.{most_text_bytes, lent_entries, Scanner, Lent, stack_alone, Ran, rows_of, turned_away, finished}
use Rattle.machine.specs.Runs.{Short, ManyRows, Begins, Runs, short, long_text, unreadable, many_rows, no_entry, started}
use Rattle.machine.specs.Run.{trace, is_short, has_many_rows, run_image, run_reading, run}
use Rattle.machine.proofs.laws.RunLaws.{traces_only, trace_no_entry, trace-some_entry, start_traces}

-- ---- the two tests

or_true : (x : Bool) → (x || true) ≡ true
or_true true = refl
or_true false = refl

-- Of two numbers, the test for the first being below.
below-or-not : (m n : ℕ) → ((m < n) × (ltb m n ≡ true)) ⊎ ((m < n → ⊥) × (ltb m n ≡ false))
below-or-not m n = ⊎_elim (λ l. inl (l, lt-ltb m n l)) (λ l. inr ((λ k. omega arith), le-ltb m n l)) (lt-or-le m n)

-- A test tells whether something holds.
abbrev Tells : Bool → Type 0 → Type 0
Tells b P = (P × (b ≡ true)) ⊎ ((P → ⊥) × (b ≡ false))

is_short_tells : (o : Option Scanner) → Tells (is_short o) (Short o)
unfolding is_short
is_short_tells none = inr ((λ x. x), refl)
is_short_tells (some s) =
    ⊎_elim
    (λ a. inl (inl a.0, rw a.1))
    (λ a. ⊎_elim
    (λ b. inl (inr b.0, rw b.1 (or_true (ltb (length s.table) lent_entries))))
    (λ b. inr (⊎_elim a.0 b.0, rw (a.1, b.1)))
    (below-or-not (length s.winners) most_rows))
    (below-or-not (length s.table) lent_entries)

many_rows_tells : (o : Option Scanner) (image : Image) → Tells (has_many_rows o image) (ManyRows o image)
unfolding has_many_rows
many_rows_tells none image = inr ((λ x. x), refl)
many_rows_tells (some s) image = below-or-not most_rows (length (rows_of image))

told-true : {b : Bool} {P : Type 0} → Tells b P → P → b ≡ true
told-true (inl x) p = x.1
told-true (inr x) p = absurd (x.0 p)

told-false : {b : Bool} {P : Type 0} → Tells b P → (P → ⊥) → b ≡ false
told-false (inl x) n = absurd (n x.0)
told-false (inr x) n = x.1

pub short_told : (o : Option Scanner) → is_short o ≡ true → Short o
short_told o e = ⊎_elim (λ x. x.0) (λ x. absurd (true≢false (sym e ∙ x.1))) (is_short_tells o)

pub long_told : (o : Option Scanner) → is_short o ≡ false → Short o → ⊥
long_told o e h = true≢false (sym (told-true (is_short_tells o) h) ∙ e)

-- ---- how a run begins

module _ (bytes text : List ℕ) (lent : Lent) where
  pub run_short : Short lent.scanner → run bytes text lent ≡ turned_away 18 0 lent
  unfolding run
  run_short h = rw (told-true (is_short_tells lent.scanner) h)

  module _ (enough : Short lent.scanner → ⊥) where
    pub run_long : most_text_bytes < length text → run bytes text lent ≡ turned_away 12 0 lent
    unfolding run
    run_long h = rw (told-false (is_short_tells lent.scanner) enough, lt-ltb most_text_bytes (length text) h)

    module _ (within : length text ≤ most_text_bytes) where
      run_reads : (r : Reading Image) → read_image bytes ≡ r → run bytes text lent ≡ run_reading r text lent
      unfolding run
      run_reads r e = rw (told-false (is_short_tells lent.scanner) enough, le-ltb most_text_bytes (length text) within, e)

      pub run_stop : (question place : ℕ) → read_image bytes ≡ stop question place → run bytes text lent ≡ turned_away question place lent
      unfolding run_reading
      run_stop question place e = run_reads (stop question place) e

      module _ (image : Image) (end : ℕ) (reads : read_image bytes ≡ got image end) where
        pub run_got : run bytes text lent ≡ run_image image text lent
        unfolding run_reading
        run_got = run_reads (got image end) reads

        run_over : ManyRows lent.scanner image → run bytes text lent ≡ turned_away 19 0 lent
        unfolding run_image
        run_over m = run_got ∙ rw (told-true (many_rows_tells lent.scanner image) m)

        run_begun : (ManyRows lent.scanner image → ⊥)
            → run bytes text lent ≡ finished image lent (trace image (length lent.stack) text)
        unfolding run_image
        run_begun m = run_got ∙ rw (told-false (many_rows_tells lent.scanner image) m)

-- ---- what the relation says, and nothing else

module _ (bytes text : List ℕ) (lent : Lent) (b : Bytes bytes) where
  abbrev Here : Ran → Type 0
  Here r = Runs bytes text lent r

  begins_runs : (image : Image) → Begins bytes text lent image → Here (finished image lent (trace image (length lent.stack) text))
  begins_runs image begins =
      ⊎_elim
      (λ z. rw (trace_no_entry image (length lent.stack) text z) (no_entry image begins z))
      (λ z. rw (trace-some_entry image (length lent.stack) text z)
      (started image _ begins z (start_traces image (length lent.stack) text)))
      (lt-or-le (length lent.stack) 1)

  reading_runs : (Short lent.scanner → ⊥) → length text ≤ most_text_bytes → (r : Reading Image) → read_image bytes ≡ r → Here (run bytes text lent)
  reading_runs h l (stop question place) e =
      let q = (read_refusal bytes b question place e).0 in
      let f : read_image bytes ≡ stop 13 place = e ∙ ap (λ (k : ℕ). stop k place) q in
      rw (run_stop bytes text lent h l 13 place f)
      (unreadable place h l (λ x. let g = sym f ∙ readable_read bytes b x.0 x.1 in let z : ◌≡◌ {A = ℕ} 0 1 = cc in omega arith)
      (stop_offends bytes b 13 place f))
  reading_runs h l (got image end) e =
      let readable = read_readable bytes b image end e in
      ⊎_elim
      (λ m. rw (run_over bytes text lent h l image end e m.0) (many_rows image h l readable m.0))
      (λ m. rw (run_begun bytes text lent h l image end e m.0)
      (begins_runs image (record { not_short = h; within = l; readable = readable; few_rows = m.0 })))
      (many_rows_tells lent.scanner image)

  pub run_runs : Runs bytes text lent (run bytes text lent)
  run_runs =
      ⊎_elim
      (λ h. rw (run_short bytes text lent h.0) (short h.0))
      (λ h. ⊎_elim
      (λ l. rw (run_long bytes text lent h.0 l) (long_text h.0 l))
      (λ l. reading_runs h.0 l (read_image bytes) refl)
      (lt-or-le most_text_bytes (length text)))
      (is_short_tells lent.scanner)

  begins_only : (image : Image) → Begins bytes text lent image
      → run bytes text lent ≡ finished image lent (trace image (length lent.stack) text)
  begins_only image x =
      run_begun bytes text lent x.not_short x.within image _ (readable_read bytes b image x.readable) x.few_rows

  pub runs_only : {r : Ran} → Runs bytes text lent r → run bytes text lent ≡ r
  runs_only (short h) = run_short bytes text lent h
  runs_only (long_text h l) = run_long bytes text lent h l
  runs_only (unreadable p h l n o) = by_reading (read_image bytes) refl
    where
      by_reading : (r : Reading Image) → read_image bytes ≡ r → run bytes text lent ≡ turned_away 13 p lent
      by_reading (stop question place) e =
          let q = (read_refusal bytes b question place e).0 in
          let same = first-offence_one bytes place p (stop_offends bytes b question place e) o in
          run_stop bytes text lent h l question place e ∙ ap₂ (λ (k j : ℕ). turned_away k j lent) q same
      by_reading (got i end) e = absurd (n (i, read_readable bytes b i end e))
  runs_only (many_rows image h l r m) = run_over bytes text lent h l image _ (readable_read bytes b image r) m
  runs_only (no_entry image x z) = begins_only image x ∙ ap (finished image lent) (trace_no_entry image (length lent.stack) text z)
  runs_only (started image e x z t) =
      begins_only image x
      ∙ ap (finished image lent)
      (trace-some_entry image (length lent.stack) text z
      ∙ traces_only image (length lent.stack) text t (length text) (omega arith))

  -- What `run` gives is what running does, and nothing else is.
  pub runs_iff : (r : Ran) → (run bytes text lent ≡ r) ↔ Runs bytes text lent r
  runs_iff r = (λ e. subst (Runs bytes text lent) e run_runs, runs_only)

  pub runs_one : {r q : Ran} → Runs bytes text lent r → Runs bytes text lent q → r ≡ q
  runs_one x y = sym (runs_only x) ∙ runs_only y

-- What a run without a table answers depends on how many entries the stack has, and not on what they hold.
pub same_entries : (bytes text a b : List ℕ) → length a ≡ length b
    → (run bytes text (stack_alone a)).answer ≡ (run bytes text (stack_alone b)).answer
unfolding run is_short run_reading run_image has_many_rows turned_away finished
same_entries bytes text a b e = by_tests (ltb most_text_bytes (length text)) (read_image bytes)
  where
    by_tests : (long : Bool) (r : Reading Image)
        → (cond long (turned_away 12 0 (stack_alone a)) (run_reading r text (stack_alone a))).answer
        ≡ (cond long (turned_away 12 0 (stack_alone b)) (run_reading r text (stack_alone b))).answer
    by_tests true r = refl
    by_tests false (stop question place) = refl
    by_tests false (got image end) = rw e
