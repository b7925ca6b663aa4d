-- The laws of the definitions in specs/.
pub mod Find
pub mod Meaning
pub mod Picked
pub mod Whole
pub mod Named
pub mod Examples
