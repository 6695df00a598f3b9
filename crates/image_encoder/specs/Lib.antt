-- What writing numbers leaves, and the numbers of an image part by part.
pub mod Parts
pub mod laws
