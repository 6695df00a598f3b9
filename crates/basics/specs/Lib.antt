-- What several crates need of lists, of truth values, of sets of small numbers and of equations. Nothing here speaks of sheets or images.
-- What must be believed, in the order in which it is best read:
pub mod Lists
pub mod Bits
pub mod Rounds
pub mod Meeting
-- Cited by contracts, by what the requests claim and by proofs; the demands do not rest on it:
pub mod Settle
-- Theorems about both:
pub mod laws
