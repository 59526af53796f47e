-- What each kind of line does.
pub mod Starts
pub mod Flushes
pub mod Looks
pub mod Scans
pub mod Sweeps
pub mod Submits
pub mod PollLines
pub mod WorkLines
pub mod Settles
