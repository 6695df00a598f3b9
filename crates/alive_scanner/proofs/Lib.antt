-- The laws that the functions' proofs cite: one byte to the left, what is remembered by byte, passes from the right, and walks with alive
-- positions.
pub mod Backward
pub mod Remembered
pub mod Passes
pub mod CutWalk
pub mod AheadLaws
pub mod laws
