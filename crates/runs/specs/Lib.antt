pub mod Bytes
pub mod Members
pub mod Sorted
pub mod Table
pub mod Chosen
