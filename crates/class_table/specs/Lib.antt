-- How the lexer's part of the machine's tables is filled while an image is read, and that it is then what the scanner relies on.
pub mod Filling
pub mod Holding
