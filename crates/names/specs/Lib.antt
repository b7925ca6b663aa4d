-- Names given by callers. Read Alphabet, Spelling and Reading.
pub mod Alphabet
pub mod Spelling
pub mod Reading
pub mod Aids
