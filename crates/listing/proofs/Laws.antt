-- The laws of the definitions in specs/.
pub mod Files
pub mod Listing
