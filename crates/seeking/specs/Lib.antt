-- The pointer of an open file moved: seek.
pub mod Seek
pub mod Aids
