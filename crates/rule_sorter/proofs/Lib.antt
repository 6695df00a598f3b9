-- The laws that the functions' proofs cite.
pub mod Ends
pub mod Parts
pub mod Lists
pub mod Columns
pub mod Rules
