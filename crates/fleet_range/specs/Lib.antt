pub mod Sides
pub mod Ranges
pub mod Shown
pub mod Keys
