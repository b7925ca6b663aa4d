-- Level 1 of the meaning: lists of bytes, and the two ways to change and read them.
pub mod Bytes
pub mod Store
pub mod Numbers
pub mod Aids
