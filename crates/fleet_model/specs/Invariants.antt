-- What holds of a store from line to line.
pub mod TreesFit
pub mod ReadsFit
pub mod JobsFit
pub mod AttemptsFit
pub mod Invariant
