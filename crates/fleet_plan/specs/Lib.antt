pub mod Parts
pub mod Anchors
pub mod Boundaries
pub mod Plans
