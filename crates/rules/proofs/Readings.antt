-- Readings of document 01 that change no answer (specs/Readings): D3 through the root (Root), and mistakes 15 (Endpoints) and 11 (Revoked) of
-- the oracle.
pub mod Root
pub mod Settled
pub mod LiveSet
pub mod Alike
pub mod Endpoints
pub mod Live
pub mod Levels
pub mod Caps
pub mod Answers
pub mod Revoked
