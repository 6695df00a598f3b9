-- The laws of this crate's definitions, proved; and what only their proofs use.
pub mod Below
pub mod RuleTails
pub mod ReachedNodes
pub mod GrammarLaws
pub mod JoinLaws
