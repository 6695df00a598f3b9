-- What the scanner's answers mean, the class table that it goes by, and what a set's positions have in the machine's tables.
pub mod ClassTable
pub mod Meaning
pub mod Sets
