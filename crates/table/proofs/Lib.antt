pub mod Laid
pub mod PassedSections
pub mod Reach
pub mod LaidExactly
pub mod OneOutcome
