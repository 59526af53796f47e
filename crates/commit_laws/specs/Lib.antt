pub mod After
pub mod CommitLaws
pub mod RunLaws
pub mod SecondJoins
pub mod RunReads
pub mod StepForms
pub mod SparedJobs
