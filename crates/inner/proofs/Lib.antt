pub mod Booking
pub mod Inner
