pub mod Sessions
pub mod Determined
