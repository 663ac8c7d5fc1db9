pub mod Behind
pub mod Sound
pub mod OneOutcome
pub mod Example
