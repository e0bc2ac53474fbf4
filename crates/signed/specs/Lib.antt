-- What we sign for: calls of the entries, what they answer, and the claims of the theorems in proofs/Signed.antt, proofs/Conversions.antt, proofs/Plays.antt and proofs/WorstRuns.antt.
pub mod Calls
pub mod Claims
pub mod Numbers
pub mod Reports
pub mod Conversions
pub mod Plays
pub mod WorstRuns
