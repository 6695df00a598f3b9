-- Laws that only the proofs of this crate's functions use.
pub mod Walking
pub mod Joined
pub mod laws
