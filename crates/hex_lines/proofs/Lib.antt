-- What the functions' proofs share, and the laws.
pub mod Digits
pub mod Ends
pub mod laws
