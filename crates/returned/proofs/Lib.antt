pub mod SheetReadLaws
