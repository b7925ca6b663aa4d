-- The laws of the definitions in specs/.
pub mod Room
pub mod Longer
pub mod LongerCode
pub mod Put
