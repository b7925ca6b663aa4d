-- The laws of the definitions in specs/.
pub mod Slots
pub mod Checksums
