-- Fusion with the lexer rules, the numbering of nonterminals, the image and its bytes, what it unfolds to, and checking and writing as a
-- whole.
-- What must be believed, in the order in which it is best read:
pub mod Fusion
pub mod Numbering
pub mod Image
pub mod ImageFormat
pub mod Unfolding
pub mod Answer
pub mod Check
pub mod Checks
pub mod Write
pub mod Writes
-- Cited by contracts, by what the requests claim and by proofs; the demands do not rest on it:
pub mod ImageRanges
pub mod ImageReading
-- Theorems about both:
pub mod laws
