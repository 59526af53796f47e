pub mod Held
pub mod Names
pub mod Counts
pub mod Rule
pub mod Steps
pub mod Passes
pub mod Calls
pub mod Locks
