-- Tasks, their analysis and their runs, in reading order.
pub mod First
pub mod Tasks
pub mod Reason
pub mod Analysis
pub mod Runs
pub mod WorstRun
