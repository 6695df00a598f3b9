-- What the arrays hold of the rows met, and what a held set leads to by the class table.
pub mod Rows
