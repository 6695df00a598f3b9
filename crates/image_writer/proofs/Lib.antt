-- The laws that the proofs of the functions cite.
pub mod Endings
pub mod Parts
pub mod laws
