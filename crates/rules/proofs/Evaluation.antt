-- The strata above: the live set, the caps, lists, when one graph is the weaker of two, and that each answer is the only one.
pub mod LiveSet
pub mod Caps
pub mod Listing
pub mod Weaker
pub mod Settled
