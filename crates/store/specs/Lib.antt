pub mod Parts
pub mod Store
