pub mod Placing
pub mod Decimals
pub mod Texts
pub mod Pieces
pub mod Example
pub mod OneOutcome
