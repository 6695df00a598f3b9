-- Laws that the proofs of the functions cite.
pub mod Turn
pub mod Parts
pub mod Completed
pub mod Walked
pub mod Turns
pub mod Walking
pub mod Ends
