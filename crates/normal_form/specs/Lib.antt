-- The productions of an expression's nodes, which nodes derive a token sequence, and the productions that stay.
-- What must be believed, in the order in which it is best read:
pub mod Productions
pub mod Derives
pub mod NormalForm
pub mod Unfolds
-- Cited by contracts, by what the requests claim and by proofs; the demands do not rest on it:
pub mod ProductionWalk
pub mod RowNames
-- Theorems about both:
pub mod laws
