-- What the converter's answers are, and the theorems: there and back.
pub mod Outcomes
pub mod ThereAndBack
