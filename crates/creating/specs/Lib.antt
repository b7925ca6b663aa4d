-- Files made: create.
pub mod Create
pub mod Aids
