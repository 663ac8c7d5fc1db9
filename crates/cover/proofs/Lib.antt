pub mod Leaves
pub mod Bits
pub mod BothBits
pub mod Blocks
pub mod CoveringSays
pub mod CoveringExample
pub mod OneOutcome
