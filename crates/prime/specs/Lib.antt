pub mod Sheets
pub mod Primes
