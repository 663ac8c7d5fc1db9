pub mod OneOutcome
pub mod RefusalLeaves
