-- Document 01's worked numbers.
pub mod Worked
