pub mod Answers
pub mod Accepted
pub mod Keeping
pub mod Amounts
pub mod OneOutcome
pub mod RefusalLeaves
