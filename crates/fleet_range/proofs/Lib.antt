pub mod Cuts
pub mod Bounded
pub mod Taken
pub mod Prefixes
pub mod Membership
pub mod Sided
