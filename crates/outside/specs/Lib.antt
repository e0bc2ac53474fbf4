-- The numbers by which C programs see the leaves.
pub mod Numbers
