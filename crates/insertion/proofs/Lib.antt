pub mod AnswerLaws
pub mod KeyLaws
pub mod NextLaws
pub mod InsertionLaws
