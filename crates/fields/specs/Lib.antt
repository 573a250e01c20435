pub mod Bytes
pub mod Texts
pub mod Values
pub mod Fields
pub mod Decimals
