pub mod Lists
pub mod Surgery
