-- The laws of the definitions in specs/.
pub mod Records
pub mod Stores
pub mod Places
pub mod Uses
