-- `image_encoder::emit_production` meets its contract. The loop's invariant: the members before the present one have joined, and
-- their numbers are written.
use mathlib.Core.List.{List}
use Prim.Native.Nat.{ℕ, ◌+◌, ◌*◌, ◌≤◌, ◌<◌}
use lib.ListN.{take}
use Rattle.basics.specs.Lists.{All}
use Rattle.basics.specs.Meeting.{meet_all}
use Rattle.node_numbering.specs.laws.Below.{concat_below}
use Rattle.node_numbering.specs.Grammar.{Numbers, Within}
use Rattle.node_numbering.specs.Leads.{Leads}
use Rattle.image_encoder.proofs.Writing.{member_numbers}
use Rattle.image_encoder.specs.laws.Emitted.{Emitted}
use Rattle.image_encoder.proofs.emit_production.Given as goal

abbrev pub invariant-loop-member : goal.invariant-loop-member
invariant-loop-member l = record {
  near : l.next ≤ l.initial.next + 10 * l.member-index;
  few : Within l.numbering;
  emitted : (nodes all : List ℕ) → Numbers l.initial.numbering nodes → Leads nodes l.members all → All (λ n. n < 64) l.members
      → Numbers l.numbering (meet_all nodes (take l.member-index l.members))
      × Emitted l.initial.image l.image l.initial.next l.next (concat_below (member_numbers all l.members) l.member-index);
}
