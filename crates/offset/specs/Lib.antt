-- The arithmetic of seek.
pub mod Offset
