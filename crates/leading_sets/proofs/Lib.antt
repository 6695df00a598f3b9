-- The law that the functions' proofs share: a list whose first entries are right.
pub mod Entries
pub mod laws
