pub mod Views
pub mod Proposals
pub mod Stores
pub mod Greatest
pub mod Levels
pub mod Polls
