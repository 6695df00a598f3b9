-- The laws of what columns hold, proved.
pub mod ColumnLaws
pub mod Joining
pub mod HeldAt
pub mod HeldOnce
pub mod Within
pub mod TabulateLaws
