-- Aids to the proofs. No definition beside this folder rests on them.
pub mod Entries
pub mod Visits
pub mod Held
