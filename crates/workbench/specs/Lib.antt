-- The C entries: what `burrbeech_check_sheet` answers and leaves, and the numbers of what the others answer.
pub mod Entry
pub mod Numbers
