pub mod Validated
pub mod ModelTrees
pub mod FirstRules
pub mod HeldNodes
pub mod NodeTables
pub mod Stands
