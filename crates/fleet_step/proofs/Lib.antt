pub mod Steps
pub mod Puts
pub mod Turns
pub mod Retries
pub mod Draws
pub mod Keeping
