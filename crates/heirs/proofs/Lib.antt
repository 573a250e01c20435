pub mod Take
pub mod Counts
pub mod Steps
pub mod InPlace
pub mod Judging
pub mod Nearness
