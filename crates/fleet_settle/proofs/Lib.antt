pub mod StepsTaken
pub mod RoundsTaken
