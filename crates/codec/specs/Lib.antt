pub mod Delegation
