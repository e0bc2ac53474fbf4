-- Packed bits, what is taken and put, and fields by hand.
pub mod Packed
pub mod Faces
pub mod Examples
