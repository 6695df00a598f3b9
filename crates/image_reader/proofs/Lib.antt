-- The laws that the functions' proofs cite: the definitions' parts, fields, steps, things read one after the other, sets of flags, columns
-- and the table.
pub mod Parts
pub mod Fields
pub mod Steps
pub mod Turns
pub mod Flags
pub mod Tails
pub mod Positions
pub mod Productions
pub mod Entries
pub mod Rows
pub mod Whole
pub mod laws
