-- The analysis of a set: verdict and response times, what is found place by place, what the entries answer and leave, the missed frame, and the runs of the set.
pub mod Times
pub mod Findings
pub mod Answers
pub mod Misses
pub mod Runs
pub mod Inside
