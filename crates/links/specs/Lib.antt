-- What the calls do to the table along a chain: a chain is freed, a chain gets new clusters. Read Freed and Linked.
pub mod Freed
pub mod Linked
pub mod Aids
