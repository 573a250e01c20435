pub mod Totals
pub mod Taking
pub mod Outcomes
pub mod Use
pub mod Steps
