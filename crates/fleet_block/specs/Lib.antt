pub mod Cuts
pub mod Decoded
pub mod Finds
pub mod Laws
pub mod Comparisons
pub mod Places
