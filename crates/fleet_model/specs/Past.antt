-- What the history alone gives.
pub mod Replay
pub mod Claimed
pub mod Finished
pub mod Live
