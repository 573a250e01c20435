pub mod Rows
pub mod Labels
pub mod Trips
