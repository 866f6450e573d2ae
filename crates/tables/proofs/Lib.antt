pub mod ContentLaws
pub mod FlagLaws
pub mod PayloadLaws
