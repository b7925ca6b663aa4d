-- The 32 bytes of a directory entry, by the address of the first: its fields.
pub mod Fields
pub mod Aids
