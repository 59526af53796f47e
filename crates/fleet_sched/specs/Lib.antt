pub mod Answers
pub mod Views
pub mod Sizes
pub mod Full
pub mod TieredParts
pub mod Options
pub mod Ids
pub mod Stretches
