-- Laws of rows, of fill and check word, and of the public functions.
pub mod Parts
pub mod Packing
pub mod Rows
pub mod Placing
pub mod Faces
pub mod Taking
pub mod Filling
pub mod RoundTrip
pub mod Looking
pub mod Putting
