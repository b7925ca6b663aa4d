-- The laws of the definitions in specs/.
pub mod Ends
pub mod Chain
pub mod Rescue
