-- Bytes put into files: write. Read the crate putting's Longer and Written, then Write.
pub mod Write
pub mod Aids
