pub mod First
pub mod OneOutcome
