-- Aids to the proofs.
pub mod Same
