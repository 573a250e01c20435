pub mod Demands
pub mod Histories
pub mod Bench
pub mod Document000
pub mod Learning
