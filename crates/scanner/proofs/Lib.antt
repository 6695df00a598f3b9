-- The laws that the functions' proofs cite: the walk over a set, one byte by sets, all bytes of a text, and a walk that notes no match.
pub mod Walked
pub mod Text
pub mod Once
pub mod laws
