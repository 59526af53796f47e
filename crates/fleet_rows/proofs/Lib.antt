pub mod Ordered
pub mod Tested
pub mod Words
mod SameKeys
