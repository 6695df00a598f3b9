-- What the recogniser's table holds of an expression's nodes, and how its columns are filled. Cited by contracts and proofs; the demands do
-- not rest on it.
pub mod TableOf
pub mod HoldsTyped
pub mod Filling
