-- From the small to the whole: slots of an array, the fill, each part's returns, the walk over the records, the sheet.
pub mod Slots
pub mod Fill
pub mod Rows
pub mod Answers
pub mod Walk
pub mod Whole
