-- The laws of the definitions in specs/.
pub mod Out
pub mod Calls
pub mod Fits
