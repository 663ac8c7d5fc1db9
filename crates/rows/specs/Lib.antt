pub mod Rows
pub mod Formula
pub mod Inside
