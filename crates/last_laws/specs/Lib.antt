pub mod Pages
pub mod ScanLines
pub mod ScriptSweeps
pub mod Weights
pub mod Rounds
pub mod Settling
pub mod Levels
pub mod WorkedSettling
