-- What reading a sheet leaves in columns: the promise of the whole, a node a turn, and the answers of the parts' readers.
pub mod Put
pub mod Reads
pub mod Turns
pub mod Answers
