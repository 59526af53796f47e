-- Tests that the stores on the way of a script pass.
pub mod TreeTests
pub mod JobTests
pub mod HistoryTests
pub mod ReadTests
pub mod Passing
