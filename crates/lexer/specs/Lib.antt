-- The words of a regex, the order of rules, the positions of a sheet's rules, the walk that finds the longest match, and the table.
-- What must be believed, in the order in which it is best read:
pub mod Words
pub mod RuleOrder
pub mod LongestMatch
pub mod Positions
pub mod Match
pub mod Walk
pub mod Table
-- Cited by contracts, by what the requests claim and by proofs; the demands do not rest on it:
pub mod SetWalk
pub mod Alive
-- Theorems about both:
pub mod laws
