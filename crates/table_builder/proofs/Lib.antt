-- The laws that the functions' proofs cite: sets that join those met, the rows one after the other, and how they are written.
pub mod Meeting
pub mod Reaching
pub mod Filling
