-- Definitions that the laws speak of, and that definitions or contracts cite too.
pub mod Computing
pub mod FusionLaws
pub mod NumberingLaws
pub mod Simulation
