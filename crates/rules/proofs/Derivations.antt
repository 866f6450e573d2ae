-- D1 to D3: levels as answers, monotony, the simulation theorem, and what rows of bytes have to show.
pub mod Answers
pub mod Monotone
pub mod Simulate
pub mod Rows
