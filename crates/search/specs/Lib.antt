-- What a search is handed and what it finds (Graph, Index, Levels, Sets); what one pass and the rounds establish on the way (Walk, Rounds).
pub mod Sets
pub mod Graph
pub mod Index
pub mod Levels
pub mod Walk
pub mod Rounds
pub mod Delegations
