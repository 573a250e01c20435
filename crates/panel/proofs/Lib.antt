pub mod Masks
pub mod Codec
pub mod Words
pub mod Stretches
pub mod Candidates
pub mod Judging
pub mod Transitions
pub mod Near
