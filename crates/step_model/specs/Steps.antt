-- The steps of the parties.
pub mod Merging
pub mod ClaimSteps
pub mod BeatSteps
pub mod OutputSteps
pub mod FinishSteps
pub mod MessageSteps
pub mod SubmitSteps
pub mod PollSteps
pub mod LoopSteps
pub mod FlushSteps
pub mod SweepSteps
