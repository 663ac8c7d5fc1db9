pub mod Moves
pub mod Greedy
pub mod OneOutcome
