-- The laws of the definitions in specs/.
pub mod Bytes
pub mod Same
pub mod Names
pub mod Stands
pub mod Rescued
pub mod AsRead
pub mod Runs
pub mod Tare
pub mod Others
