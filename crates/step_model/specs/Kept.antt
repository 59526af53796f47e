-- What every lawful call keeps.
pub mod Faithful
pub mod TablesKept
pub mod NamesKept
pub mod JoinsKept
pub mod Facts
pub mod Keeps
