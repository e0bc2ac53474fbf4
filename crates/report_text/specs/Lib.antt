-- The report: its words and lines, and the whole text for a byte string.
pub mod Words
pub mod Report
pub mod Text
pub mod Inside
