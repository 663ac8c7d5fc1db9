pub mod Left
pub mod Guards
pub mod GoesOn
pub mod Finding
pub mod Seeking
pub mod Looking
pub mod OneOutcome
