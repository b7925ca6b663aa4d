-- Files found by a pattern: find. Read Find, then Whole.
pub mod Find
pub mod Whole
pub mod Aids
