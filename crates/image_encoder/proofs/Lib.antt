-- The laws that the functions' proofs cite: what one write leaves, the parts of an image from the writes of a loop, the rows, and
-- the image from its parts.
pub mod Writing
pub mod Rows
pub mod Whole
pub mod laws
