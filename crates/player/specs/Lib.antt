-- The player: what it answers, its state and what it does with it, and how that shows the run. Inside: the words of private contracts.
pub mod Refusals
pub mod Answers
pub mod State
pub mod Shows
pub mod Inside
