-- Aids to the proofs. No definition rests on them.
pub mod Fits
