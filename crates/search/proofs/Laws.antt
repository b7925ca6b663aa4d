-- The laws of the definitions in specs/.
pub mod Turns
pub mod Flags
pub mod Meaning
pub mod Answers
pub mod Chains
