-- Findings 2 and 3 as the code searches for them: aids to the proofs of sound, which has the definitions.
pub mod Aids
