pub mod Turns
pub mod ScriptLines
