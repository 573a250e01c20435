pub mod LineLaws
pub mod LearnLaws
pub mod RunLaws
pub mod Promises
pub mod AnswerLaws
pub mod Examples
