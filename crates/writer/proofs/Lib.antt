-- The laws behind the writer, in the order in which they build on one another.
pub mod Tasks
pub mod Numbers
pub mod Admitted
pub mod Sets
pub mod Turns
pub mod Whole
pub mod Outcomes
