pub mod NamedIds
pub mod Order
pub mod Chosen
pub mod Turns
pub mod Finding
pub mod Deleting
pub mod Exact
