pub mod Choices
pub mod Puts
pub mod Sources
pub mod Contexts
pub mod Beginnings
