-- The laws of the definitions in specs/.
pub mod Kinds
pub mod Clusters
pub mod Chain
pub mod Found
pub mod Extent
