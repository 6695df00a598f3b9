-- Laws that only the proofs of this crate's functions use.
mod Storing
mod Rows
pub mod laws
