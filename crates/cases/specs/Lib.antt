-- The table of worked sets.
pub mod Table
