-- The laws of the definitions in specs/.
pub mod OneCopy
pub mod Triples
pub mod Copies
pub mod View
