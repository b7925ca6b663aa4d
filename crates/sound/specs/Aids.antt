-- Aids to the proofs. Of the definitions beside this folder only the three of Judged rest on them.
pub mod Judged
pub mod FromFinding
pub mod Holders
pub mod Area
