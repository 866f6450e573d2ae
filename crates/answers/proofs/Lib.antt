-- What is proved of the calls' statements: that each settles its answer, that places stand for bytes, and demand 3.
pub mod Equality
pub mod Standing
pub mod Settled
pub mod Places
pub mod OverBytes
pub mod Counting
pub mod Members
pub mod Closures
pub mod Cases
pub mod Seeking
pub mod ClosureAnswered
pub mod MembersAnswered
pub mod OneClosure
pub mod Stores
