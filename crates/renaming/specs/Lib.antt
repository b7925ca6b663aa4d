-- A file's name changed: rename.
pub mod Rename
