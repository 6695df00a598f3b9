-- The laws of this crate's definitions, proved, and worked lines.
pub mod DecimalLaws
pub mod LineLaws
pub mod LineExamples
