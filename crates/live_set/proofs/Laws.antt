-- Context: the searches of contexts. Live: the live set.
pub mod Context
pub mod Live
