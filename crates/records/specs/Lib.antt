-- Rows of fields, fill and check word, and what the public functions answer and leave. Inside: the words of private contracts.
pub mod Rows
pub mod Sealed
pub mod Faces
pub mod Inside
pub mod Examples
