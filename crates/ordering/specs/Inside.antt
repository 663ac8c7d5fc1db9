pub mod Reported
pub mod Placing
