-- From the small to the whole: widths, what is read where, the entries of a script, one entry judged, the walk over the items.
pub mod Widths
pub mod Made
pub mod Entries
pub mod Turns
pub mod Walk
pub mod Whole
pub mod ScriptBits
pub mod RoundTrip
pub mod Changes
