pub mod Sizes
pub mod Flushes
pub mod ModelFlushes
pub mod Tracking
pub mod Chunks
pub mod Places
pub mod Falling
