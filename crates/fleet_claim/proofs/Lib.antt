pub mod Lists
pub mod Choices
pub mod Puts
pub mod ModelSources
pub mod Bare
pub mod ModelContexts
pub mod Beginnings
