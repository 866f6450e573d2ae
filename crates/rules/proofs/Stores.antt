-- Two stores held against each other: one closure (demand 3), places against bytes, one more revocation.
pub mod Finite
pub mod Match
pub mod OneClosure
pub mod Places
pub mod Revoking
