-- The laws behind the check word, in the order in which they build on one another.
pub mod Steps
pub mod Residue
pub mod Detects
pub mod Sealing
pub mod Register
pub mod Words
pub mod LastTwo
