pub mod Judging
pub mod Doing
pub mod Promises
pub mod Steps
