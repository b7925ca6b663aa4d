-- Aids to the proofs. No definition beside this folder rests on them.
pub mod Ready
