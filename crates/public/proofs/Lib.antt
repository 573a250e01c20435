pub mod OneResult
pub mod LentStated
