-- The number that a call answers, and a caller's stamp.
pub mod Packing
pub mod Stamps
pub mod Aids
