-- What an entry of a directory stands for, and where an entry is found.
pub mod Slots
pub mod Entries
pub mod Search
pub mod Aids
