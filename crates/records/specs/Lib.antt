-- Open records as values: the row that a table's bytes say, and what is found in it.
pub mod Row
pub mod Seek
