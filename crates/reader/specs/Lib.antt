-- What the reader answers: `reading` of crate sheet, and here a sheet that is judged. Inside: what its parts answer.
pub mod Sheets
pub mod Inside
