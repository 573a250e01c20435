pub mod Names
pub mod Spans
