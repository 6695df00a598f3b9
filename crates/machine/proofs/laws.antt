-- The laws of this crate's definitions, proved; and what only their proofs use.
pub mod TakingLaws
pub mod RunLaws
pub mod RunsLaws
pub mod LentLaws
pub mod OwnAnswerLaws
pub mod OrderedAnswers
pub mod AcceptanceLaws
pub mod SpelledOutAnswers
pub mod RunAnswers
pub mod FaithfulImage
pub mod WorkLaws
pub mod Examples
