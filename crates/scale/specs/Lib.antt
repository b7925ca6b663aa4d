-- What the C program sees: the number that a call answers, and what it puts into the caller's bytes.
pub mod Out
pub mod Calls
pub mod Aids
