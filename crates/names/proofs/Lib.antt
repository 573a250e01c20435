pub mod NameLaws
pub mod SpanLaws
pub mod Equal
pub mod Meaning
pub mod Examples
