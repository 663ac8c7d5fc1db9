pub mod OneOutcome
pub mod RefusalLeaves
pub mod Same
