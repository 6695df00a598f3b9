-- The laws of this crate's definitions, proved.
pub mod DigitLaws
