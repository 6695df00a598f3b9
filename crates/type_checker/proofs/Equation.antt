-- What a node goes by is in the columns, by its tag, and what else the equation and the question of a node need to know.
use mathlib.Core.Path.{◌≡◌, ◌∙◌}
use mathlib.Core.Logic.{◌⊎◌, inl, inr}
use Prim.Native.Nat.{ℕ, suc, ◌+◌, ◌*◌, ◌%◌, ◌^◌, ◌<◌}
use native.Mathlib.Omega.{arith}
use lib.Pow.{shl_exact}
use Rattle.columns.specs.HeldNodes.{node_of, held_node}
use Rattle.columns.specs.laws.Within.{LinksFit}
use Rattle.columns.specs.declared.NodeLinks.{NodeLinks}
use lib.ListN.{get_or}

pub shl_one_32 : (i : ℕ) → i < 32 → (1 * 2 ^ i) % 2 ^ 32 ≡ 2 ^ i
shl_one_32 i h = shl_exact 1 i 32 (omega arith) (omega arith) ∙ omega arith

-- ---- what a node goes by is in the columns

module _ (links : NodeLinks) (fit : LinksFit links) (i : ℕ) (more : i < links.count) where
  pub token_small : get_or links.tag i 0 ≡ 2 → get_or links.link i 0 < 32
  unfolding held_node node_of
  token_small e = let h : get_or links.link i 0 < 24 = rw e at (fit.all_within i more) in omega arith

  pub parts_small : (get_or links.tag i 0 ≡ 3) ⊎ ((get_or links.tag i 0 ≡ 4) ⊎ (get_or links.tag i 0 ≡ 7)) → (i + 1 < 64) × (get_or links.link i 0 < 64)
  unfolding held_node node_of
  parts_small (inl e) = let h : (suc i < links.count) × (get_or links.link i 0 < links.count) = rw e at (fit.all_within i more) in (omega (arith, fit.count_fits), omega (arith, fit.count_fits))
  parts_small (inr (inl e)) = let h : (suc i < links.count) × (get_or links.link i 0 < links.count) = rw e at (fit.all_within i more) in (omega (arith, fit.count_fits), omega (arith, fit.count_fits))
  parts_small (inr (inr e)) = let h : (suc i < links.count) × (get_or links.link i 0 < links.count) = rw e at (fit.all_within i more) in (omega (arith, fit.count_fits), omega (arith, fit.count_fits))

  pub body_small : get_or links.tag i 0 ≡ 5 → i + 1 < 64
  unfolding held_node node_of
  body_small e = let h : suc i < links.count = rw e at (fit.all_within i more) in omega (arith, fit.count_fits)

  pub binder_small : get_or links.tag i 0 ≡ 6 → get_or links.link i 0 < 64
  unfolding held_node node_of
  binder_small e = let h : get_or links.link i 0 < links.count = rw e at (fit.all_within i more) in omega (arith, fit.count_fits)

pub ruleset node_laws = (shl_one_32, token_small, parts_small, body_small, binder_small)
