-- The laws of this crate's definitions, proved; and what only their proofs use.
pub mod Members
pub mod Buffers
pub mod Partitions
pub mod Settling
pub mod Order
pub mod Truth
pub mod RoundLaws
pub mod BitLaws
pub mod LowestMember
pub mod MeetingLaws
pub mod DistinctMembers
pub mod Reaching
