-- Laws that the functions' proofs cite.
pub mod Told
pub mod Fields
pub mod Leading
pub mod RegexTurns
pub mod RuleTurns
pub mod RulesLoop
pub mod ExpressionTurns
pub mod Holding
pub mod Whole
pub mod laws
