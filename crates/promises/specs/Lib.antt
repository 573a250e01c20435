pub mod Printed
pub mod NoRoom
