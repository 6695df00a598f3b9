-- The laws that the functions' proofs cite: what is found by rows, what is seen at a place, what turns leave and are charged, how runs end.
pub mod ByRows
pub mod Looking
pub mod TurningLaws
pub mod Charging
pub mod Ending
