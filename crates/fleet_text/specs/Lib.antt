pub mod Reading
pub mod Lines
pub mod Kinds
pub mod Served
pub mod Places
pub mod Printed
pub mod Faults
pub mod Pages
