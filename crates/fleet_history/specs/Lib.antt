pub mod Parties
pub mod Changes
pub mod Entries
pub mod Notes
