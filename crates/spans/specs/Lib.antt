pub mod Parts
pub mod Fewer
pub mod Steps
pub mod Touching
