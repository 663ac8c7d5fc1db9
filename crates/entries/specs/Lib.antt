pub mod First
pub mod Entries
pub mod Front
pub mod Inside
