-- The laws of the definitions in specs/.
pub mod Value
pub mod Paths
pub mod WalkTurns
pub mod Tails
