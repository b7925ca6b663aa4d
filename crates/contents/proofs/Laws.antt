-- The laws of the definitions in specs/.
pub mod Kinds
pub mod Chain
pub mod Runs
pub mod Stores
pub mod Kept
pub mod Read
pub mod Leaves
pub mod Turns
