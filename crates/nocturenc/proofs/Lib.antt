pub mod Reading
pub mod OneOutcome
pub mod RefusalLeaves
