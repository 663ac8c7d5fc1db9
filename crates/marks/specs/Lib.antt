pub mod Marks
pub mod Inside
