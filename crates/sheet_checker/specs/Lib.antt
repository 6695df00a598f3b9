-- What checking answers, and what its steps hold of a sheet that was read.
pub mod Steps
pub mod Answer
