pub mod Fleets
pub mod Steps
pub mod Work
pub mod Lines
pub mod Lists
pub mod Sweeps
