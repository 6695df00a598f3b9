-- Grammar sheets: what they are made of, when bytes are a well-formed sheet, and how a sheet is read from bytes.
-- What must be believed, in the order in which it is best read:
pub mod Limits
pub mod Regex
pub mod Expression
pub mod Sheet
pub mod Spelling
pub mod Field
pub mod Format
pub mod SheetFormat
-- Cited by contracts, by what the requests claim and by proofs; the demands do not rest on it:
pub mod Twins
pub mod Items
pub mod Reading
pub mod SheetD
pub mod WellFormed
-- Theorems about both:
pub mod laws
