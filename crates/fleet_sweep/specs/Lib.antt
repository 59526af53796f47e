pub mod Named
pub mod Sweeps
