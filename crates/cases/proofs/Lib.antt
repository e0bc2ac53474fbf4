-- The statement over the table of cases.
pub mod Cases
