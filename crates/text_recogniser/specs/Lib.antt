-- What the recogniser's answers mean. Cited by contracts and proofs; the demands do not rest on it.
pub mod Ends
