-- The laws of this crate's definitions, proved; and what only their proofs use.
pub mod ListLaws
pub mod FieldLaws
pub mod NumberLaws
pub mod FormatLaws
pub mod AfterTags
pub mod SheetAgreement
pub mod SheetRanges
pub mod ReadingLaws
pub mod TwinLaws
pub mod RegexItems
pub mod ExpressionItems
pub mod ItemsRead
pub mod Examples
