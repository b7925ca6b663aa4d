-- The laws of the definitions in specs/.
pub mod Format
pub mod Blank
pub mod Sound
