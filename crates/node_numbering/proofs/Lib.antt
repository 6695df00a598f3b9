-- The laws that the functions' proofs cite: a rule's tail, the nodes that join, the rows one after the other.
pub mod Tails
pub mod Meeting
pub mod Reaching
pub mod laws
