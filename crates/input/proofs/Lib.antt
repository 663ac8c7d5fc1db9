pub mod Copies
pub mod BytePairs
pub mod BytesJudged
pub mod Length
pub mod Example
pub mod OneOutcome
pub mod RefusalLeaves
