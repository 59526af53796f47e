pub mod MoreLines
pub mod Written
pub mod Given
pub mod Runs
pub mod Refusals
pub mod GeneratedScripts
pub mod CommandWords
pub mod Counted
