-- The laws of the definitions in specs/.
pub mod Bits
pub mod Triples
pub mod Values
pub mod Meanings
