pub mod Marking
pub mod OneOutcome
