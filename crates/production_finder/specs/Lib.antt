-- What columns hold of a typed expression, what the results of the code mean, and the walk as the code makes it.
pub mod Columns
pub mod ColumnWalk
