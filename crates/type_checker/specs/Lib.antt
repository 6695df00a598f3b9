-- What the code of the type check answers, joined to the definitions of types.
pub mod Dependents
pub mod Raised
pub mod Found
pub mod Checking
pub mod laws
