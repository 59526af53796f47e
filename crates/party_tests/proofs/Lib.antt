pub mod Hands
pub mod Finished
pub mod Names
pub mod Starts
pub mod Splits
