pub mod Text
pub mod Placed
