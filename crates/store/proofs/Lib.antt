pub mod MadeLaws
pub mod ViewLaws
