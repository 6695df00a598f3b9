-- The laws that the functions' proofs cite.
pub mod Rules
pub mod Tables
pub mod Writing
pub mod Reading
