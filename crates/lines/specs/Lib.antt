-- Decimal digits (`Decimal`), the bytes of a printed line (`Lines`), and what a numeral is, said
-- without working one out (`Numeral`). The laws join the last to the first.
pub mod Decimal
pub mod Lines
pub mod Numeral
