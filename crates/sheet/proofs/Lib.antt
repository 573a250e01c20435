pub mod Stretch
pub mod Planting
pub mod Sweeping
pub mod Sweeps
pub mod Tallying
pub mod Fresh
