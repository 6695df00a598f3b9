-- The laws of this crate's definitions, proved; and what only their proofs use.
pub mod StackLaws
pub mod TakingLaws
pub mod TurnLaws
pub mod Going
pub mod Places
