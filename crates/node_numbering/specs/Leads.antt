-- That all nodes reached begin with those met once some more have joined. A node's number is then known as soon as it is met: its place
-- among those met so far is its place among all.
use Rattle.std.specs.Prelude.{◌≡◌, List, ◌++◌, ℕ, ◌≤◌, length}
use Rattle.basics.specs.Meeting.{meet_all}

pub record Leads (met more all : List ℕ) : Type 0 where
  pub rest : List ℕ
  pub continues : all ≡ meet_all met more ++ rest
  pub few : length all ≤ 64
