pub mod Books
pub mod Telling
pub mod BookOf
pub mod Passes
pub mod Finding
pub mod Unions
pub mod Merging
