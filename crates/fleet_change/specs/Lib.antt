pub mod Puts
pub mod Same
