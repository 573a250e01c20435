pub mod Masks
pub mod Codec
pub mod Rules
pub mod Transitions
pub mod Contacts
