-- Fits: what facts keep. Places: the rules' graph at places. Coverage, Contexts: what stratum 1 establishes. Lives: the grades that stratum 2 works on.
pub mod Arrays
pub mod Fits
pub mod Places
pub mod Coverage
pub mod Contexts
pub mod Lives
