-- Laws of numbers in decimal, of the words of a line, and of the whole report.
pub mod Decimal
pub mod Line
pub mod Lines
pub mod Reported
pub mod Whole
pub mod Written
