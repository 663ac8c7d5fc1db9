pub mod Requests
pub mod Inside
