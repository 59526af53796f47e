-- What the course of a step is, and how it runs.
pub mod Course
pub mod CourseRuns
pub mod Alone
pub mod Ran
pub mod StepEnds
pub mod Tries
