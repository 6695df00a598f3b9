-- What a descent over an expression's table comes to. Cited by contracts and proofs; the demands do not rest on it.
pub mod Steps
