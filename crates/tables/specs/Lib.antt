pub mod Committed
pub mod Insertion
pub mod Columns
pub mod Look
