-- What is proved of scripts: how requests and replies stand in their buffers, and that what a script answers is settled (Settled).
pub mod Parts
pub mod Measuring
pub mod Performing
pub mod Settled
