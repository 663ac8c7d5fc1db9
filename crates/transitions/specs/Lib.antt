pub mod Statements
pub mod Inside
