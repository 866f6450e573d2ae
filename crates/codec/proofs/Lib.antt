-- What is proved of the payload: what is written reads back, what is read writes back, and nothing else is accepted.
pub mod Reading
pub mod Writing
pub mod Parts
pub mod RoundTrip
pub mod Content
pub mod FourWrites
