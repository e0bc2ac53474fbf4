-- What the answer of the start-frame test says is in StartOrWhy; the rest is what the proofs of the functions cite.
pub mod Tests
pub mod Rows
pub mod Sums
pub mod Starts
pub mod StartOrWhy
pub mod Frames
pub mod Reasons
pub mod Fits
pub mod Shapes
pub mod Answers
