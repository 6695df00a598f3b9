-- What the functions answer: digits and bytes (`Hex`), and where lines end (`LineEnds`).
pub mod Hex
pub mod LineEnds
