-- The laws of the definitions in specs/.
pub mod Parts
pub mod Meaning
pub mod Matches
pub mod Examples
