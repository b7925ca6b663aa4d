-- Patterns given by callers. Read Patterns.
pub mod Patterns
