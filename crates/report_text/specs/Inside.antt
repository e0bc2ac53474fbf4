-- Definitions that only private contracts use.
pub mod Lines
