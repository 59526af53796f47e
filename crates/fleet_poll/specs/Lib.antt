pub mod Polls
pub mod Made
pub mod Shown
pub mod Seen
pub mod Loops
pub mod Steps
