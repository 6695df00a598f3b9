-- What writing answers.
pub mod Answer
