-- Numbers in groups of seven bits.
-- What must be believed, in the order in which it is best read:
pub mod Number
-- Theorems about them:
pub mod laws
