-- The laws that the functions' proofs cite: the pending nonterminals from the first on, pushing a tail, a tail in the place of its taker,
-- and what a take and a turn answer.
pub mod Entries
pub mod Pushing
pub mod Replacing
pub mod Answers
pub mod laws
