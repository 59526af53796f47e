pub mod Callers
pub mod Passes
pub mod Refusing
pub mod Starts
