-- Aids to the proofs. No definition beside this folder rests on them.
pub mod Freed
pub mod Extent
pub mod Linked
pub mod Leaves
