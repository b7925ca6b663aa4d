-- The laws of the definitions in specs/.
pub mod MarkTurns
pub mod SlotTurns
pub mod FileTurns
