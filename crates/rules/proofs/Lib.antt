-- What is proved about the definitions of specs/, by subject, bottom up. Other crates cite it as Rattle.rules.proofs.FOLDER.FILE.
pub mod Derivations
pub mod Evaluation
pub mod Stores
pub mod Plain
pub mod Readings
