pub mod Asked
pub mod LinesPut
pub mod Pieces
pub mod PartsPut
pub mod Written
pub mod Example
pub mod OneOutcome
