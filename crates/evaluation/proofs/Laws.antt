-- Ask: what an evaluation answers.
pub mod Ask
