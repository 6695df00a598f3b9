-- What the columns and the numbering hold, and the fused productions rule by rule.
pub mod Grammar
pub mod Leads
pub mod laws
