-- Running an image over a text, and the sheet's own answer to a text.
-- What must be believed, in the order in which it is best read:
pub mod Trace
pub mod Lent
pub mod Runs
pub mod OwnAnswer
-- Cited by contracts, by what the requests claim and by proofs; the demands do not rest on it:
pub mod Run
pub mod Lexes
pub mod Work
-- Theorems about both:
pub mod laws
