pub mod Ordered
pub mod Compared
