-- The laws of the definitions in specs/. Turns and Extent: what the loops ask. The others: what their results mean.
pub mod Turns
pub mod Table
pub mod Freed
pub mod New
pub mod Linked
pub mod Extent
pub mod Leaves
