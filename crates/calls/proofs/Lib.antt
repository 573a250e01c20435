pub mod Codes
pub mod Ends
pub mod Applying
pub mod Determined
pub mod Ladder
pub mod Steps
