-- The laws of this crate's definitions, proved; and what only their proofs use.
pub mod ClassTableLaws
pub mod ByteLaws
