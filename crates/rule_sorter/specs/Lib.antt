-- Where a rule ends in the columns, and the rules of a kind.
pub mod Ends
pub mod Kinds
