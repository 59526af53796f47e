-- The laws on single kinds of lines.
pub mod ReadLines
pub mod PollRuns
pub mod PollLines
pub mod PollCalls
pub mod ClaimLines
pub mod FinishLines
pub mod FinishedJobs
pub mod Outputs
pub mod ClaimSettings
pub mod Refused
pub mod Conflicts
pub mod CommittedTables
pub mod BeatLines
pub mod AttemptLines
pub mod UnnamedTables
pub mod Causes
