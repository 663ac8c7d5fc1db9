pub mod Chains
pub mod Walks
pub mod Popped
pub mod Steps
pub mod Loops
pub mod Itself
pub mod OneOutcome
