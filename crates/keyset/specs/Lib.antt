-- What a set of keys is.
pub mod Word
