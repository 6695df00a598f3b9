-- The laws of this crate's definitions, proved; and what only their proofs use.
pub mod TokenRun
pub mod DescentRuns
pub mod Ends
pub mod DescendingLaws
pub mod Shortcuts
pub mod OneDescent
pub mod Reading
pub mod ListingLaws
pub mod DescentAnswers
pub mod RecognisesNumbers
pub mod RecognisesLaws
pub mod Examples
