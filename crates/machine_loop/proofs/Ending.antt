-- A run of a readable image, by whether the stack has an entry.
use mathlib.Core.Path.{◌≡◌, sym, ap, ◌∙◌}
use mathlib.Core.List.{List}
use Prim.Native.Nat.{ℕ, ◌≤◌, ◌<◌}
use lib.ListN.{length}
use Rattle.image.specs.Image.{Image}
use Rattle.image.specs.Answer.{Answer, answer}
use Rattle.machine.specs.Trace.{start_state, answer_of}
use Rattle.machine.specs.Run.{trace_from, trace}
use Rattle.machine.proofs.laws.RunLaws.{trace_no_entry, trace-some_entry}

module _ (i : Image) (entries : ℕ) (text : List ℕ) where
  pub run_no_entry : entries < 1 → answer 17 0 0 ≡ answer_of (trace i entries text)
  unfolding answer_of
  run_no_entry h = sym (ap answer_of (trace_no_entry i entries text h))

  pub run-some_entry : 1 ≤ entries → (a : Answer) → a ≡ answer_of (trace_from i entries text (length text) start_state)
      → a ≡ answer_of (trace i entries text)
  run-some_entry h a f = f ∙ sym (ap answer_of (trace-some_entry i entries text h))
