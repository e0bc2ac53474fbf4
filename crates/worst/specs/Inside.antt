-- Definitions that only private contracts use.
pub mod Plans
pub mod Steps
