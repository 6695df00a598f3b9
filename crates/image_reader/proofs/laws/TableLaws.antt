-- What the machine reads off the tables: whether a nonterminal takes a rule, and the tail that an entry stands for.
use Rattle.std.specs.Prelude.{◌≡◌, refl, List, ℕ}
use Rattle.std.proofs.Math.Option.{Option, none, some}
use Rattle.std.proofs.Common.{arith}
use Rattle.normal_form.specs.Productions.{Production}
use Rattle.image_reader.specs.Tables.{EntryTail, EntryIs}

-- An entry of 0 is no production.
pub entry_none : (bytes : List ℕ) (start n entry : ℕ) (o : Option Production) → EntryIs bytes start n entry o → entry ≡ 0 → o ≡ none
entry_none bytes start n entry none h e = refl
entry_none bytes start n entry (some p) h e = absurd (omega (arith, h.some_entry))

-- Any other stands for a tail.
pub entry_some : (bytes : List ℕ) (start n entry : ℕ) (o : Option Production) → EntryIs bytes start n entry o → (entry ≡ 0 → ⊥)
    → (p : Production) × (o ≡ some p) × EntryTail bytes start n entry p.tail
entry_some bytes start n entry none h e = absurd (e h)
entry_some bytes start n entry (some p) h e = (p, refl, h)
