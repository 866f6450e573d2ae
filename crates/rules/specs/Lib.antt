-- What a reader has to believe. Rules is document 01 and is read first; the others state what is proved about it.
pub mod Rules
pub mod Rows
pub mod OneClosure
pub mod Revoking
pub mod Readings
pub mod Numbered
pub mod Facts
pub mod Specimens
