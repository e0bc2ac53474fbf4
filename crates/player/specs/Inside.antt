-- Definitions that only private contracts use.
pub mod Course
pub mod Staging
