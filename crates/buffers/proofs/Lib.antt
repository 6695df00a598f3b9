-- The lemma that the proof of the fill cites.
pub mod Filling
pub mod laws
