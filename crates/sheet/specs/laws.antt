-- Definitions that the laws speak of, and that definitions or contracts cite too.
pub mod Computing
pub mod RegexItems
pub mod ExpressionItems
