pub mod Hinted
