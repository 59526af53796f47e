pub mod Answers
pub mod Answered
pub mod KeyReads
pub mod KeyRows
pub mod Walk
pub mod Sources
pub mod ScanState
