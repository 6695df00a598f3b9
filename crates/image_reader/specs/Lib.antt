-- What the tables hold (`Tables`), what the functions that read parts of an image answer (`Answers`), what reading a whole image
-- answers (`Decoded`), and what the machine reads off the tables (`TableLaws`).
pub mod Tables
pub mod Answers
pub mod Decoded
