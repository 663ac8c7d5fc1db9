pub mod Bytes
pub mod Example
pub mod Length
pub mod Inside
