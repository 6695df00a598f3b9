-- Question 7's flags and the sets of positions that a sheet's items give, node by node and rule by rule; and the two answers.
pub mod Stacks
pub mod Nodes
pub mod Forests
pub mod Answer
