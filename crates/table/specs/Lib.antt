-- The table's entries: where they stand.
pub mod Entries
pub mod Aids
