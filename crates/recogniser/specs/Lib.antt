-- Document 001's recogniser: a descent on the expression itself, and what it answers to a text.
-- What must be believed:
pub mod Recognises
-- Cited by contracts, by what the requests claim and by proofs; the demands do not rest on it:
pub mod Descends
pub mod ReadingStops
pub mod Descending
pub mod Ranks
pub mod Listing
pub mod Recognise
-- Theorems about both:
pub mod laws
