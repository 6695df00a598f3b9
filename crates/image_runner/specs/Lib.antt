-- What a run returns and leaves, and what reading an image for it answers.
pub mod Lending
pub mod Reading
