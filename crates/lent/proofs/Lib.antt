-- The laws of rows of checks and of lent memory, which every entry's proof cites.
pub mod Checks
pub mod Laid
pub mod Lent
