-- Lemmas of the C entries.
pub mod Four
pub mod Answers
pub mod Small
