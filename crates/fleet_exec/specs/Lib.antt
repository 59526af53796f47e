pub mod ExecutorParts
pub mod Executors
pub mod Attempts
pub mod Ranges
pub mod Taking
pub mod Cut
pub mod Tables
pub mod Turns
