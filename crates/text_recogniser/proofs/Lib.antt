-- Laws that only the proofs of this crate's functions use.
pub mod Endings
