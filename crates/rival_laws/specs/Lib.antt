pub mod FitLaws
pub mod Free
pub mod Runs
pub mod Idle
