-- The order of insertion does not matter: what is held, and with it every answer.
pub mod Inserting
pub mod Entries
pub mod AnyOrder
pub mod SameSets
