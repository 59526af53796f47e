pub mod Answers
pub mod Pages
pub mod Sources
pub mod Stored
