pub mod LookLines
pub mod KeyReads
pub mod KeyScans
