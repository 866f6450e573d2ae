pub mod MarkLaws
pub mod FilterLaws
pub mod ChosenLaws
pub mod WriteLaws
pub mod AreLists
