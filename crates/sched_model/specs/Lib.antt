pub mod FreshRuns
pub mod Sizes
pub mod Series
pub mod Picks
pub mod SizeTiered
pub mod Levels
pub mod Worked
