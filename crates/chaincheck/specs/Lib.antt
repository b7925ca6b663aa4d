-- Findings 5 to 7 as the code walks the chains: aids to the proofs of sound, which has the definitions.
pub mod Aids
