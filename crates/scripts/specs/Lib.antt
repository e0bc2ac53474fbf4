-- Run scripts in bytes: their layout, what is read and written, and how a script is judged. Inside: the words of private contracts.
pub mod Format
pub mod Reading
pub mod Writing
pub mod Judging
pub mod Inside
pub mod Examples
