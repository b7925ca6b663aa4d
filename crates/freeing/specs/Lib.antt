-- The clusters of a file given back.
pub mod Freed
