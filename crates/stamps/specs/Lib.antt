-- Stamps: the ranges, the words, and back.
pub mod Stamps
