-- One turn of the pass over an expression's nodes, as the code makes it.
pub mod Walking
