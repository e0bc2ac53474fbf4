-- Definitions that only private contracts use.
pub mod Demand
pub mod Response
pub mod Steps
pub mod Numbered
pub mod Delivery
