pub mod Tree
pub mod Walk
pub mod OneProof
pub mod Stepping
pub mod Looks
