-- The walk along one chain, as the code does it: aids to the proofs of sound, which has the definitions.
pub mod Aids
