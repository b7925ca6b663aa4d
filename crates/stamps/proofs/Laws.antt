-- The laws of the definitions in specs/.
pub mod Ranges
pub mod Stamps
