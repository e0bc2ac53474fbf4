-- What the converter answers and leaves.
pub mod Converting
