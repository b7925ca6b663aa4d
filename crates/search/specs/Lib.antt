-- Searching a range of numbers, from the front, as a loop goes.
pub mod Search
pub mod Aids
