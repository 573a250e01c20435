pub mod Books
pub mod Finding
pub mod Clashes
