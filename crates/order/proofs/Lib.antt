-- What other crates cite stands in Order and Laws; the rest stands below these.
pub mod Higher
pub mod Order
pub mod Records
pub mod Sorted
pub mod Keys
pub mod ByKeys
pub mod Below
pub mod Laws
