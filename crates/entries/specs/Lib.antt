-- What stands in a slot: entry at a slot.
pub mod Entry
