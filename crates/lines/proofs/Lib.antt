pub mod Clear
pub mod LineLaws
pub mod BoundLaws
pub mod Written
pub mod Examples
pub mod NamesWritten
pub mod Taking
