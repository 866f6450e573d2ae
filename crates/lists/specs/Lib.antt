pub mod Lists
pub mod Marks
