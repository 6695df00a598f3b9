-- `list_matches` meets its contract. The loop's invariant: what is listed so far, and what is listed from the present place on, is all of it,
-- for any rules that the tables were made of; and as many bytes have passed as there are tokens, or more.
use mathlib.Core.Path.{◌≡◌}
use mathlib.Core.List.{List}
use Prim.Native.Nat.{◌-◌, ◌≤◌}
use lib.ListN.{length}
use Rattle.sheet.specs.Sheet.{Rule}
use Rattle.token_lister.specs.Listing.{RulesReady}
use Rattle.token_lister.proofs.Reading.{Reached}
use Rattle.token_lister.proofs.list_matches.Given as goal

abbrev pub invariant-loop-place : goal.invariant-loop-place
invariant-loop-place l =
    (l.count ≤ l.place) × (l.place ≤ length l.text) × (length l.list ≡ length l.initial.list) × (length l.starts ≡ 2048)
    × ((rules : List Rule) → RulesReady rules l.action l.tables l.last l.first → Reached rules l.text l.count l.place l.initial.list l.list l.initial.starts l.starts)

abbrev pub decreases-loop-place : goal.decreases-loop-place
decreases-loop-place l = length l.text - l.place
