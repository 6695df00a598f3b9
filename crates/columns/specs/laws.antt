-- Definitions that the laws speak of, and that definitions or contracts cite too.
pub mod Joining
pub mod Within
