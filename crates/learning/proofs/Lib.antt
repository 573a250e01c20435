pub mod Words
pub mod Lists
pub mod Ends
pub mod Ways
pub mod Determined
