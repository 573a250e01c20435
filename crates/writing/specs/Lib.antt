pub mod TableText
pub mod SheetText
pub mod Writing
