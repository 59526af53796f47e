pub mod Row
pub mod Errors
pub mod Settings
pub mod KeyValue
