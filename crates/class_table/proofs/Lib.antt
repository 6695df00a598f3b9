-- The laws that the functions' proofs cite.
pub mod Toggling
pub mod Sweeping
pub mod laws
