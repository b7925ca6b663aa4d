-- The calls over a row of open records: aids alone. The definitions are those of the crates records and single.
pub mod Aids
