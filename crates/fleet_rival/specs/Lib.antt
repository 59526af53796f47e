pub mod Callers
pub mod Rival
pub mod Placed
pub mod Starts
