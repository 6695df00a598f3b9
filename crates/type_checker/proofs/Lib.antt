-- Laws that the proofs of the functions cite.
pub mod Equation
pub mod Sets
pub mod Loops
pub mod All
pub mod laws
