-- What the start frame's search answers, and what is found of a set that is judged.
pub mod Start
pub mod Judged
pub mod Inside
