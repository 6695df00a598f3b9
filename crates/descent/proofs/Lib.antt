-- Laws that only the proofs of this crate's functions use.
pub mod After
pub mod NodeKinds
pub mod Visits
pub mod laws
