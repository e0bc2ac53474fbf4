-- Definitions that only private contracts use.
pub mod Frames
pub mod Steps
