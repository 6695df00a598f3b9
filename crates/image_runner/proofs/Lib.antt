-- The laws that the functions' proofs cite: what is built of the buffers, and what a run leaves.
pub mod Laws
