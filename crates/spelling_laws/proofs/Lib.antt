pub mod Spelt
pub mod SpeltWords
pub mod SpeltRows
pub mod SpeltLines
pub mod Texts
