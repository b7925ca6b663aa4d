-- The calls on a single open record: the calls over bytes, read through a row of records.
pub mod Rows
pub mod Aids
