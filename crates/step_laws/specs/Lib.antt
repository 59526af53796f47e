pub mod Replays
pub mod CallLaws
pub mod Later
pub mod RanLaws
pub mod Midway
pub mod MidwayCalls
pub mod Runs
