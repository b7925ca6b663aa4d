-- A reset in the middle of a save: what stands on the disk after it, and what rescue brings off it. Read Torn, Promises and
-- AsRead; the rest is for the proofs.
pub mod Torn
pub mod Promises
pub mod AsRead
pub mod Aids
