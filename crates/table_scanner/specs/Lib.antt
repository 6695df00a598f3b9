-- What a walk by the rows of a table relies on, and that the table of some positions has it. The walk itself is defined in lexer,
-- and how a table is filled is not said here.
pub mod Rows
