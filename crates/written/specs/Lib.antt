pub mod Written
pub mod Tables
pub mod Example
pub mod Inside
