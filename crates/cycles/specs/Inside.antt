pub mod Cyclic
pub mod Path
