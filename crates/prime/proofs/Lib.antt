pub mod Least
pub mod Laws
pub mod Apply
pub mod Primes
pub mod Passes
