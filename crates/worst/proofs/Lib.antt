-- The laws behind the worst run written, from the releases of one task to the outcomes of the call.
pub mod Releases
pub mod JobWork
pub mod Counts
pub mod Putting
pub mod Roles
pub mod Done
pub mod Standing
pub mod Written
pub mod Whole
pub mod Planning
pub mod ByRole
pub mod Scripts
pub mod Outcomes
pub mod Shown
