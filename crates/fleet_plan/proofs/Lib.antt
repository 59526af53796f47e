pub mod Strides
pub mod Sorting
pub mod Sums
pub mod Cuts
pub mod Inputs
pub mod Described
