-- The check word by division, what a change is, the division in a register, and published values.
pub mod Division
pub mod Change
pub mod Inside
pub mod Vectors
