-- The plain evaluator: what it computes, that it is right on every finite store, and S1 to S12 by it.
pub mod Evaluate
pub mod Says
pub mod Lists
pub mod Bytes
pub mod Until
pub mod Levels
pub mod Coverage
pub mod Live
pub mod Caps
pub mod Answers
pub mod Only
pub mod Tests
pub mod Specimens
