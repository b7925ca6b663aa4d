-- The laws of the definitions in specs/.
pub mod Slots
pub mod Entries
pub mod Names
pub mod Search
