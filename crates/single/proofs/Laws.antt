-- The laws of the definitions in specs/.
pub mod Held
pub mod OpenAt
