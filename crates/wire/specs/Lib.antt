pub mod Operation
pub mod Reply
pub mod Request
