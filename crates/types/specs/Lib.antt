-- What an expression denotes, Figure 2's types, the least types of all nodes, and questions 8 to 10.
-- What must be believed, in the order in which it is best read:
pub mod Denotation
pub mod Types
pub mod Nodes
pub mod LeastTypes
pub mod LeastSolution
pub mod TypeFaults
-- Cited by contracts, by what the requests claim and by proofs; the demands do not rest on it:
pub mod Questions
pub mod FlapTyping
pub mod SpelledOut
pub mod Languages
pub mod NodeLanguages
pub mod Solutions
pub mod TypeNames
pub mod NodeNames
-- Theorems about both:
pub mod laws
