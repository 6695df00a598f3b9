-- What columns hold: a sheet's rules and its expression, the nodes with their links and types, and positions.
-- Begin with `Holds`, then `HeldNodes` and `Linked`, then `HeldPositions`.
pub mod Tags
pub mod Holds
pub mod Tabulate
pub mod HeldNodes
pub mod Linked
pub mod HeldPositions
pub mod laws
