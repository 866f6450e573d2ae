pub mod Graph
pub mod Answers
pub mod OneClosure
pub mod Facts
pub mod Marks
pub mod Sought
