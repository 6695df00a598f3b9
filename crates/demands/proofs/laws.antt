-- The demands' proofs, what follows from the demands, and what the requests claim.
pub mod Proofs
pub mod Corollaries
pub mod Requests
pub mod RequestsFollow
