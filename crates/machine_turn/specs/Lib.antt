-- The stack that holds the pending nonterminals (`Stack`), what the functions of a turn answer (`Steps`), that a turn by the tables and the
-- stack is a turn of the machine (`TurnLaws`, on the others), and what turns in a row keep (`Going`).
pub mod Stack
pub mod Steps
pub mod laws
