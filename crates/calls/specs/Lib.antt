pub mod Fresh
pub mod Take
pub mod Apply
