pub mod Followable
pub mod Follow
pub mod Graph
pub mod Spots
