-- The laws that the functions' proofs cite: one for each way through the code.
pub mod Reading
pub mod Writing
pub mod laws
