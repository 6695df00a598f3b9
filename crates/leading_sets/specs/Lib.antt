-- Which positions lead to a set of positions and what follows one, and the table of unions that tells both for each eight positions; and the
-- laws of all three.
pub mod Leading
