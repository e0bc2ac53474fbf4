-- Run scripts: what they are, what is turned away of them, the run that a script stands for, and how its play ends, in reading order.
pub mod Script
pub mod Items
pub mod ScriptRun
pub mod OfScript
pub mod Broken
pub mod Play
pub mod Says
pub mod OnePending
pub mod WorstScript
