pub mod Opened
pub mod ThirdSection
pub mod OneOutcome
