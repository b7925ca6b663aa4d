-- The laws of the definitions in specs/.
pub mod Changed
pub mod Frames
pub mod Given
pub mod Root
pub mod Slots
pub mod SameSlot
pub mod Emptied
pub mod Marks
pub mod Made
pub mod Lengthened
pub mod Put
pub mod Wrote
pub mod Verdict
pub mod NewSlot
