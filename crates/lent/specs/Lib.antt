-- Refusals in their order, and lent memory, for every call alike.
pub mod Checks
pub mod Lent
