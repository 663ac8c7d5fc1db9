pub mod Verdict
pub mod Judge
pub mod Inside
