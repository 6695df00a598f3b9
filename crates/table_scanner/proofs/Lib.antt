-- The laws that the functions' proofs cite: the walk by rows over a front of a text, and what it tells. What the table's rows stand for is not asked.
pub mod Front
pub mod Told
pub mod laws
