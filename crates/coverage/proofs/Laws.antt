-- Flags: bools and words. Fill: loops over places that fill an array or gather a word. Put: loops over a word's members that write an array.
-- Seek: a search's levels are the rules' levels. Cover: coverage. Net: what its words say. Group: contexts.
pub mod Flags
pub mod Fill
pub mod Put
pub mod Seek
pub mod Cover
pub mod Net
pub mod Group
