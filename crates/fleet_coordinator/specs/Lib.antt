pub mod Starts
pub mod Submits
pub mod Flushes
pub mod Recording
pub mod Polling
pub mod Handling
