pub mod Options
pub mod LevelParts
pub mod Sizes
pub mod Picks
