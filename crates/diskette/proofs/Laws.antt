-- The laws of the definitions in specs/.
pub mod Kinds
pub mod Places
pub mod Images
