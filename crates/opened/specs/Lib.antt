-- The open table as bytes: the fields of its records, which places are live, which files are open.
pub mod Records
pub mod Changes
pub mod Places
pub mod Aids
