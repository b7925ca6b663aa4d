-- The laws of the definitions in specs/.
pub mod Exits
pub mod Rows
pub mod Ready
pub mod Files
pub mod Named
pub mod Stamps
pub mod Told
pub mod Attribute
