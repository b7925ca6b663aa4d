-- Finding 4 as the code searches for it: aids to the proofs of sound, which has the definition.
pub mod Aids
