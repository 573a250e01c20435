pub mod PutLaws
pub mod NameLines
pub mod TextLaws
pub mod WriteLaws
pub mod Examples
pub mod Steps
