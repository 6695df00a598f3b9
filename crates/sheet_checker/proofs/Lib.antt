-- The laws that the proofs of the functions cite.
pub mod Endings
pub mod Ordered
pub mod laws
