pub mod Rules
pub mod Shown
pub mod Held
pub mod Laws
pub mod Tables
pub mod Places
