pub mod Learn
pub mod Running
