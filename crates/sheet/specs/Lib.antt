-- The sheet: its constants, its fields, the tasks in it, what is turned away, what is read and what is written.
pub mod Constants
pub mod Pairs
pub mod Fields
pub mod Tasks
pub mod Refusals
pub mod Layout
pub mod Admission
pub mod Reading
pub mod Writing
pub mod Examples
