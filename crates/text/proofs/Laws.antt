-- The laws of the definitions in specs/.
pub mod Puts
pub mod Pages
pub mod Digits
pub mod Names
