-- Buffers with their front cleared.
pub mod Cleared
