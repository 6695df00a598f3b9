-- The laws that the functions' proofs cite.
pub mod Changes
pub mod Items
pub mod Stacks
pub mod Flags
pub mod Sweeping
pub mod SweepLoop
pub mod RuleLoops
pub mod Ranges
pub mod Holding
pub mod Joined
pub mod laws
