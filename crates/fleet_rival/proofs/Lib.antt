pub mod Rivals
pub mod Again
pub mod Alone
pub mod Firsts
pub mod Places
