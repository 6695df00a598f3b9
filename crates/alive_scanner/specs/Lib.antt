-- What is kept of the alive positions, and the matches that are found ahead by them.
pub mod Blocks
pub mod Ahead
