-- Laws of numbers, bytes and fields, below the laws of the two public faces.
pub mod Laws
pub mod Numbers
pub mod Tests
pub mod Within
pub mod Fields
pub mod Chunk
pub mod Masks
pub mod Faces
pub mod RoundTrip
