pub mod Naming
pub mod Columns
pub mod Answers
