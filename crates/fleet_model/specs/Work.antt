-- The work of the fleet: jobs' records and gates, polls, claims and attempts.
pub mod Records
pub mod Gates
pub mod Scheduler
pub mod Attempts
pub mod Parties
pub mod PollStates
pub mod Polls
pub mod Claims
